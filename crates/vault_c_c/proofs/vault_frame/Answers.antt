-- `vault_c_c::vault_frame` meets its contract: what crate vault_c's ensures. The check finds this too; said here, a wrong call is refused at what differs.
-- Assumes nothing.
use Rattle.vault_c_c.proofs.vault_frame.Goals as goal

pub returns : goal.returns
returns c = c.vault_frame.ensures
