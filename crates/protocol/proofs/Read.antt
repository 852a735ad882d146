-- What the frame reader accepts is `Readable`: the contents-level condition on frames asks no more than the reader's answer gives,
-- and a readable frame's own bytes are accepted. So runs over bytes are runs by contents.
-- Assumes nothing.
use Prim.Native.Nat.{ℕ}
use mathlib.Core.Path.{◌≡◌, sym, ◌∙◌, ap, subst}
use mathlib.Core.List.{List}
use lib.ListN.{get_or}
use lib.Dec.{eqb}
use borrow.Author.Tests.{not-false, eqb-true}
use Rattle.wire.specs.Fields.{Bytes}
use Rattle.frame.specs.declared.Frame.{Frame}
use Rattle.frame.specs.Refusal.{Accepted}
use Rattle.frame.specs.Format.{encode, decode}
use Rattle.frame.specs.Refusal.{first, link_rows, read_frame}
use Rattle.frame.proofs.Theorems.{passed, accepted_valid, read_back}
use Rattle.protocol.specs.Fed.{Readable}
use Rattle.protocol.proofs.Went.{none_given}

-- Byte 1 is the sender that the reader finds.
sender_said : (s : List ℕ) → get_or s 1 0 ≡ (decode s).sender
unfolding decode
sender_said s = mathlib.Core.Path.refl

-- A frame that the reader accepts is from its link, and readable.
pub accepted_readable : (s : List ℕ) (link n own : ℕ) (x : Frame) → Bytes s → read_frame s link n own ≡ Accepted x → (x.sender ≡ link) × Readable n own x
accepted_readable s link n own x bytes e =
    let p = passed s link n own x e in
    let said : get_or s 1 0 ≡ x.sender = sender_said s ∙ ap (λ (y : Frame). y.sender) p.said in
    let same : get_or s 1 0 ≡ link = eqb-true (get_or s 1 0) link
    (not-false (eqb (get_or s 1 0) link) (none_given (link_rows (get_or s 1 0) link n own) p.link_passed).1.0) in
    let own_link : x.sender ≡ link = sym said ∙ same in (
      own_link,
      record {
        valid = accepted_valid s link n own x bytes e;
        link =
            subst (λ (j : ℕ). first (link_rows x.sender j n own) ≡ 0) (sym own_link)
            (subst (λ (j : ℕ). first (link_rows j link n own) ≡ 0) said p.link_passed);
        content = p.content;
        leader = p.leader;
      },
    )

-- The bytes of a readable frame are accepted, as that frame.
pub readable_accepted : (n own : ℕ) (x : Frame) → Readable n own x → read_frame (encode x) x.sender n own ≡ Accepted x
readable_accepted n own x read = read_back x x.sender n own read.valid read.link read.content read.leader
