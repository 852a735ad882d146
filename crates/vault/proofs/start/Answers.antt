-- `vault::start` meets its contract: by the output, the record's length and its n, and the settings.
-- Assumes nothing.
use mathlib.Core.Path.{◌≡◌, sym, ◌∙◌, ap}
use borrow.Author.Rules.{rules}
use Rattle.std.specs.Prelude.{Err}
use Rattle.frame.proofs.Laws.{numbered}
use Rattle.settings.specs.declared.Settings.{Settings}
use Rattle.record.specs.Layout.{decode_record}
use Rattle.protocol.specs.Calls.{started}
use Rattle.vault.proofs.Laws.{accepted_left}
use Rattle.vault.proofs.Begun.{start_short, start_length, start_held, start_refused, start_accepted}
use Rattle.vault.proofs.start.Goals as goal

pub returns-then-out-lt-ROOM : goal.returns-then-out-lt-ROOM
returns-then-out-lt-ROOM c =
    let rec = c.args.rec.now in
    let out = c.args.out.now in
    start_short rec c.args.set c.args.plan out c.if-out-lt-ROOM.true

pub returns-then-rec-ne-SIZE : goal.returns-then-rec-ne-SIZE
returns-then-rec-ne-SIZE c =
    let rec = c.args.rec.now in
    let out = c.args.out.now in
    start_length rec c.args.set c.args.plan out c.if-out-lt-ROOM.false c.if-rec-ne-SIZE.true

pub returns-then-held-ne0 : goal.returns-then-held-ne0
returns-then-held-ne0 c =
    let rec = c.args.rec.now in
    let out = c.args.out.now in
    let is : c.settings_of-held.result.n ≡ (decode_record rec).set.n = ap (λ (x : Settings). x.n) c.settings_of-held.ensures in
    start_held rec c.args.set c.args.plan out c.if-out-lt-ROOM.false c.if-rec-ne-SIZE.false (λ (e : (decode_record rec).set.n ≡ 0). c.if-held-ne0.true (is ∙ e))

pub returns-in_err-settings_refusal : goal.returns-in_err-settings_refusal
returns-in_err-settings_refusal c =
    let rec = c.args.rec.now in
    let out = c.args.out.now in
    let answer : c.from_residual.result ≡ Err c.in_err-settings_refusal.field-0.0 = search rules in
    let is : c.settings_of-held.result.n ≡ (decode_record rec).set.n = ap (λ (x : Settings). x.n) c.settings_of-held.ensures in
    rw answer (start_refused rec c.args.set c.args.plan out c.if-out-lt-ROOM.false c.if-rec-ne-SIZE.false (sym is ∙ c.if-held-ne0.false)
    _ c.in_err-settings_refusal.ensures (numbered _))

pub returns : goal.returns
returns c =
    let rec = c.args.rec.now in
    let out = c.args.out.now in
    let is : c.settings_of-held.result.n ≡ (decode_record rec).set.n = ap (λ (x : Settings). x.n) c.settings_of-held.ensures in
    accepted_left (started c.args.set c.args.plan) rec c.begin.new.rec out c.begin.new.out c.begin.result
    (λ i. (c.type_inv.rec i).fits) c.begin.ensures
    ∙ start_accepted rec c.args.set c.args.plan out c.if-out-lt-ROOM.false c.if-rec-ne-SIZE.false (sym is ∙ c.if-held-ne0.false)
    (sym c.in_ok-settings_refusal.ensures)
