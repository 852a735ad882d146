-- `vault::hear` meets its contract: the frame is kept, and one pass runs.
-- Assumes nothing.
use Rattle.vault.proofs.Heard.{keep_requires, hear_requires, hear_ran}
use Rattle.vault.proofs.hear.Goals as goal

pub keep-requires : goal.keep-requires
keep-requires c = keep_requires c.requires.0

pub pass_from-requires : goal.pass_from-requires
pass_from-requires c =
    let out = c.args.out.now in
    hear_requires c.requires.0 c.keep.new.rec c.keep.ensures out c.requires.1 c.requires.2

pub returns : goal.returns
returns c =
    let out = c.args.out.now in
    hear_ran c.requires.0 c.keep.new.rec c.keep.ensures
    out c.pass_from.new.out c.pass_from.result c.pass_from.new.rec c.pass_from.ensures
