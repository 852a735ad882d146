-- `entry::write` meets its contract. The table of frames (01, Frames).
-- The head, and the body put where it ends, are the frame put at once.
-- Assumes nothing.
use native.Mathlib.Omega.{arith}
use Rattle.frame.specs.Format.{head_fields, body_fields, fields_of, encode}
use Rattle.wire.proofs.Laws.{length_spell}
use Rattle.wire.proofs.Output.{placed_spell}
use Rattle.frame.proofs.writer.write.Goals as goal

pub put_head-requires : goal.put_head-requires
unfolding encode
put_head-requires c = omega (arith, length_spell (fields_of c.args.f))

pub put_body-requires : goal.put_body-requires
unfolding encode
put_body-requires c = omega (arith, length_spell (fields_of c.args.f))

pub returns : goal.returns
unfolding encode
returns c =
    let a = c.args in
    let body = c.put_body.ensures in (
      omega (arith, length_spell (fields_of a.f), body.0),
      rw (body.1, c.put_head.ensures)
          (placed_spell (head_fields a.f) (body_fields a.f.body) a.out.now 0 (omega arith)),
    )
