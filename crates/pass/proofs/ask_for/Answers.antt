-- `pass::ask_for` meets its contract: the view-change goes into the own row where the record lies, and its entry is written.
-- Assumes nothing.
use Prim.Native.Nat.{◌^◌, ◌<◌}
use mathlib.Core.Path.{sym, ap, subst}
use mathlib.Core.Option.{some}
use Rattle.settings.specs.declared.Settings.{Settings}
use Rattle.record.specs.Slots.{rows}
use Rattle.protocol.specs.Pass.{ask, taken}
use Rattle.contents.specs.Contents.{contents_in}
use Rattle.contents.proofs.Ready.{ready_row}
use Rattle.steps.specs.declared.Entries.TheVariants.{Sent}
use Rattle.steps.proofs.Steps.{ready_ask}
use Rattle.pass.proofs.Runs.{room_written, ran_stored, change_fits, ask_for}
use borrow.Author.Rules.{rules}
use Rattle.pass.proofs.ask_for.Goals as goal

pub keep_head-requires : goal.keep_head-requires
keep_head-requires c =
    let (fits, low) = change_fits c.change_frame-f.ensures in
    (fits, low, subst (λ (x : Settings). x.id < rows) (sym c.requires.1) (ready_row c.requires.0), c.requires.0.size)

pub write_entries-requires : goal.write_entries-requires
write_entries-requires c =
    let did = ask_for c.args.rec.now c.requires.0 (ap (λ (x : Settings). x.id) c.requires.1)
    c.change_frame-f.ensures in
    room_written (taken (contents_in c.args.rec.now) (some (ask c.args.w))) (Sent c.change_frame-f.result)
    did.wrote c.args.at c.args.out.now c.requires.3

pub returns : goal.returns
returns c =
    let did = ask_for c.args.rec.now c.requires.0 (ap (λ (x : Settings). x.id) c.requires.1)
    c.change_frame-f.ensures in
    let held = c.keep_head.ensures in
    let low : c.args.w < 2 ^ 32 = search rules in
    let ready = ready_ask c.args.rec.now c.requires.0 c.args.w c.requires.2 low did held in
    ran_stored _ (Sent c.change_frame-f.result) did c.args.at
    c.args.out.now held ready c.write_entries.ensures
