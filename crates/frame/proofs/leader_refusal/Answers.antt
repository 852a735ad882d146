-- `frame::leader_refusal` meets its contract. 'proposal not from its view's leader; suggest for a view this vault does not lead' (01, Refusal 15).
-- The one row is given by the flag.
-- Assumes nothing.
use Rattle.frame.proofs.Laws.{told}
use Rattle.frame.proofs.leader_refusal.Goals as goal

pub returns-then-led_wrong : goal.returns-then-led_wrong
returns-then-led_wrong c = simp (told c.led_wrong.ensures c.if-led_wrong.true)

pub returns : goal.returns
returns c = simp (told c.led_wrong.ensures c.if-led_wrong.false)
