-- `sound::is_free` meets its contract: each branch decides one part.
-- Assumes nothing.
use Rattle.frame.specs.Format.{within}
use Rattle.frame.proofs.Laws.{tests}
use Rattle.sound.proofs.is_free.Goals as goal

pub returns-then-sender-id : goal.returns-then-sender-id
unfolding within
returns-then-sender-id c = search tests

pub returns-then-kind-lt-VOTE_1 : goal.returns-then-kind-lt-VOTE_1
unfolding within
returns-then-kind-lt-VOTE_1 c = search tests

pub returns : goal.returns
unfolding within
returns c = search tests
