-- A sentence for each refusal of document 01's table and of document 02, wishes 1, 5 and 6, in ASCII, and what asking for one leaves.
-- Assumes nothing.
use Rattle.std.specs.Prelude.{ℕ, ◌≤◌, ◌≡◌, cond, List, [], ◌∷◌, leb, length, get_or}
use Prim.Native.Char.{code}
use Prim.Native.String as text
use Prim.Native.String.{String}
use Rattle.wire.specs.Placed.{placed}

-- By number, from 0, which is no refusal: the table's column 'Given if' in plain words. 23 is for lines of a rehearsal, and has none here.
abbrev pub sentences : List String
sentences =
    text.[]
    ∷ "the host lent less than 256 bytes for the output, 237 for a remnant, or two numbers for an answer"
    ∷ "this vault was not started yet"
    ∷ "the stored record is damaged, or of another program: restore it from the vault's own store, do not start anew"
    ∷ "this vault was started before, or its record is damaged"
    ∷ "there are 4 to 64 vaults"
    ∷ "f is at least 1, and three times f is less than n"
    ∷ "the vault's number must be below n"
    ∷ "the link class is 0 to 7"
    ∷ "the frame is empty, or of no known kind"
    ∷ "the length does not fit the kind, or reports are not 39 bytes long"
    ∷ "the sender is no vault of this practice, or this vault itself"
    ∷ "the frame names another sender than the link it came by"
    ∷ "a view-change, suggest or proof for view 0"
    ∷ "a report's mark is neither 0 nor 1, or it is absent and not all of it is 0"
    ∷ "a proposal from a vault that does not lead the view, or a suggest that is not for this vault"
    ∷ "the frame's view is over"
    ∷ "the same frame, or a newer one of this kind, came from this sender already"
    ∷ "a timer of another view than the current one"
    ∷ "the last view of all is reached"
    ∷ "the line has no even count of lower-case digits, or more than 90"
    ∷ "a report's view is not below the frame's"
    ∷ "a previous vote without a highest one, not below it, or for the same plan"
    ∷ text.[]
    ∷ "there are not 2 to 64 records, one of them is blank or damaged, or they differ in n or f"
    ∷ "the stored remnant is not 237 bytes long: restore it from the vault's own store, do not start anew"
    ∷ "the stored remnant is damaged, or of another program: restore it, do not start anew"
    ∷ []

-- The bytes of a text: a letter of ASCII is one byte.
unfoldable pub text_bytes : String → List ℕ
text_bytes text.[] = []
text_bytes (text.◌∷◌ letter rest) = code letter ∷ text_bytes rest

-- The bytes of a number's sentence; none where there is no such refusal.
unfoldable pub sentence_of : ℕ → List ℕ
sentence_of number = text_bytes (get_or sentences number text.[])

-- No sentence has more than 120 bytes (VAULT_LONGEST_TEXT of include/vault.h). Proved as `short_texts` in proofs/Laws.
abbrev pub ShortTexts : Type 0
ShortTexts = (number : ℕ) → length (sentence_of number) ≤ 120

-- Bytes that are written whole, or not at all where there is no room for them.
unfoldable pub fitting : List ℕ → ℕ → List ℕ
fitting bytes room = cond (leb (length bytes) room) bytes []

-- These bytes were written at the start of the output, their count is the answer, and the rest of the output stays.
pub record Written (bytes out out' : List ℕ) (answer : ℕ) : Type 0 where
  pub count : answer ≡ length bytes
  pub left : out' ≡ placed out 0 bytes
