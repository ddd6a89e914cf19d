-- A walk along a number's bytes: what is known when all bytes so far have bit 7 set, that one more such byte keeps it so, and what the
-- number is where the walk ends. It is how a loop meets the definition, which speaks of no walk.
-- Assumes nothing.
use mathlib.Core.Path.{◌≡◌, refl, sym, ap, ◌∙◌}
use mathlib.Core.List.{List, [], ◌∷◌, ◌++◌, append-nil}
use Prim.Native.Nat.{ℕ, zero, suc, pred, ◌+◌, ◌-◌, ◌*◌, ◌%◌, ◌^◌, ◌≤◌, ◌<◌}
use native.Mathlib.Nat.{add-zero, mul-zero, mul_comm, pow-suc, pow-le-pow_right, sub_self}
use native.Mathlib.Numerals.{add-one}
use native.Mathlib.Omega.{arith}
use lib.ListN.{length, get_or, take, drop, length-append, length-drop, drop_of_length-le}
use lib.Seq.{take-suc, take-add, take-nil, get_or-drop, drop-drop, drop-cons}
use Rattle.answer.specs.declared.Reason.TheVariants.{EndOfBytes, WrongNumber}
use Rattle.codec.specs.declared.Field.{Field}
use Rattle.codec.specs.Fields.{groups, top}
use Rattle.answer.specs.Outcome.{at}
use Rattle.codec.specs.Reads.{refused}
use Rattle.codec.specs.Reading.{carried, value_of, least, ended, number_in, number_at}
use Rattle.codec.proofs.Groups.{carried_append, carried_some, value_append, value_below, group_below}
use Rattle.codec.proofs.Readings.{ends_over, ends_short, ends_last}

-- the bytes from the number's first up to the next one to be read
abbrev pub so_far : List ℕ → ℕ → ℕ → List ℕ
so_far bytes start next = take (next - start) (drop start bytes)

-- the bytes so far all have bit 7 set, and are as many as the groups that are no longer left; their value, and the weight and the least
-- number of a group to follow
pub record Walked (bytes : List ℕ) (start most left value weight low next : ℕ) : Type 0 where
  pub carries : carried (so_far bytes start next) ≡ length (so_far bytes start next)
  pub counts : length (so_far bytes start next) + left ≡ most
  pub reaches : next ≡ start + length (so_far bytes start next)
  pub stands : value ≡ value_of (so_far bytes start next)
  pub weighs : weight ≡ 128 ^ length (so_far bytes start next)
  pub lowest : low ≡ least (length (so_far bytes start next))

so_far_none : (bytes : List ℕ) (start : ℕ) → so_far bytes start start ≡ []
so_far_none bytes start = ap (λ (n : ℕ). take n (drop start bytes)) (sub_self start)

so_far_more : (bytes : List ℕ) (start next byte : ℕ) → byte ≡ get_or bytes next 0 → start ≤ next → next < length bytes → so_far bytes start (next + 1) ≡ so_far bytes start next ++ (byte ∷ [])
so_far_more bytes start next byte b s h =
    let n : next + 1 - start ≡ suc (next - start) = omega arith in
    let i : start + (next - start) ≡ next = omega arith in
    ap (λ (k : ℕ). take k (drop start bytes)) n
    ∙ take-suc (drop start bytes) (next - start) 0 (simp length-drop (omega arith))
    ∙ ap (λ (b : ℕ). so_far bytes start next ++ (b ∷ [])) (get_or-drop start bytes (next - start) 0 ∙ ap (λ (k : ℕ). get_or bytes k 0) i ∙ sym b)

-- the window of a number is the bytes so far, and as many of the others as there are groups left
so_far_window : (bytes : List ℕ) (start next left : ℕ) → start ≤ next → take (next - start + left) (drop start bytes) ≡ so_far bytes start next ++ take left (drop next bytes)
so_far_window bytes start next left s =
    let i : start + (next - start) ≡ next = omega arith in
    take-add (next - start) left (drop start bytes)
    ∙ ap (λ (l : List ℕ). so_far bytes start next ++ take left l) (drop-drop (next - start) start bytes ∙ ap (λ (k : ℕ). drop k bytes) i)

take_some : (n byte : ℕ) (bytes : List ℕ) → 1 ≤ n → take n (byte ∷ bytes) ≡ byte ∷ take (pred n) bytes
take_some zero byte bytes h = absurd (omega arith)
take_some (suc n) byte bytes h = refl

-- nothing is read yet
pub walked_none : (bytes : List ℕ) (start most : ℕ) → Walked bytes start most most 0 1 0 start
walked_none bytes start most =
    let e = so_far_none bytes start in
    record {
      carries = rw e;
      counts = rw e (omega arith);
      reaches = rw e (omega arith);
      stands = rw e;
      weighs = rw e;
      lowest = rw e;
    }

module _ {bytes : List ℕ} {start most left value weight low next : ℕ} (walked : Walked bytes start most left value weight low next) where
  -- one more byte with bit 7 set
  pub walked_more : (byte : ℕ) → byte ≡ get_or bytes next 0 → 1 ≤ left → next < length bytes → 128 ≤ byte → byte < 256 → Walked bytes start most (left - 1) (value + (byte - 128) * weight) (weight * 128) (weight * 128) (next + 1)
  walked_more byte b some inside high small =
      let front = so_far bytes start next in
      let e : so_far bytes start (next + 1) ≡ front ++ (byte ∷ []) = so_far_more bytes start next byte b (omega arith) inside in
      let n : length (front ++ (byte ∷ [])) ≡ suc (length front) = length-append front (byte ∷ []) ∙ add-one (length front) in
      let group : byte % 128 ≡ byte - 128 = omega arith in
      let heavier : weight * 128 ≡ 128 ^ suc (length front) = ap (λ (w : ℕ). w * 128) walked.weighs ∙ sym (pow-suc 128 (length front)) in
      let v : value_of (front ++ (byte ∷ [])) ≡ value + (byte - 128) * weight =
      value_append front (byte ∷ [])
      ∙ simp (mul-zero, add-zero, group, ← walked.stands, ← walked.weighs, mul_comm weight (byte - 128)) in
      record {
        carries = rw e (omega (arith, carried_append front (byte ∷ []) walked.carries, carried_some byte [] high));
        counts = rw e (omega arith);
        reaches = rw e (omega arith);
        stands = rw e (sym v);
        weighs = rw (e, n) heavier;
        lowest = rw (e, n) heavier;
      }

  -- with nine groups at most, a number with one group more has 63 bits, and so has the weight after it
  pub walked_fits : most ≤ 9 → 1 ≤ left → (group : ℕ) → group < 128 → value + group * weight < 2 ^ 63
  walked_fits few some group small =
      let front = so_far bytes start next in
      let bound : value + group * weight < 128 ^ suc (length front) =
      simp (walked.stands, walked.weighs) (group_below (length front) (value_of front) group (value_below front) small) in
      omega (arith, pow-le-pow_right {n = 128} (omega arith) {i = suc (length front)} {j = 9} (omega arith))

  pub walked_weight : most ≤ 9 → 1 ≤ left → weight * 128 ≤ 2 ^ 63
  walked_weight few some =
      let front = so_far bytes start next in
      omega (arith, pow-suc 128 (length front), pow-le-pow_right {n = 128} (omega arith) {i = suc (length front)} {j = 9} (omega arith))

module _ {bytes : List ℕ} {start most left value weight low next : ℕ} (walked : Walked bytes start most left value weight low next) (field : Field) (allows : most ≡ groups field) where
  -- the bytes so far, and as many of the others as there are groups left, decide what the number is
  window : (others : List ℕ) → take left (drop next bytes) ≡ others → number_at bytes start field ≡ number_in most (top field) (so_far bytes start next ++ others) start (length bytes)
  unfolding number_at
  window others e =
      let m : groups field ≡ next - start + left = omega arith in
      rw (← allows)
      (ap (λ (w : List ℕ). number_in most (top field) w start (length bytes))
      (ap (λ (k : ℕ). take k (drop start bytes)) (allows ∙ m)
      ∙ so_far_window bytes start next left (omega arith)
      ∙ ap (λ (l : List ℕ). so_far bytes start next ++ l) e))

  -- where there are no others
  alone : take left (drop next bytes) ≡ [] → number_at bytes start field ≡ number_in most (top field) (so_far bytes start next) start (length bytes)
  alone e = window [] e ∙ ap (λ (w : List ℕ). number_in most (top field) w start (length bytes)) (append-nil (so_far bytes start next))

  -- no group is left
  pub walked_over : left ≡ 0 → number_at bytes start field ≡ refused (at WrongNumber start)
  walked_over none =
      alone (ap (λ (k : ℕ). take k (drop next bytes)) none)
      ∙ ends_over most (top field) start (length bytes) (so_far bytes start next) walked.carries (omega arith)

  -- no byte is left
  pub walked_short : 1 ≤ left → length bytes ≤ next → number_at bytes start field ≡ refused (at EndOfBytes (length bytes))
  walked_short some over =
      alone (ap (take left) (drop_of_length-le bytes over) ∙ take-nil left)
      ∙ ends_short most (top field) start (length bytes) (so_far bytes start next) walked.carries (omega arith)

  -- a byte without bit 7
  pub walked_last : (byte high : ℕ) → byte ≡ get_or bytes next 0 → high ≡ top field → 1 ≤ left → next < length bytes → byte < 128 → number_at bytes start field ≡ ended (value + byte * weight) low high start (next + 1)
  walked_last byte high b t some inside small =
      let front = so_far bytes start next in
      let others = take (pred left) (drop (suc next) bytes) in
      let n : start + suc (length front) ≡ next + 1 = omega arith in
      let first : drop next bytes ≡ byte ∷ drop (suc next) bytes = drop-cons bytes next 0 inside ∙ ap (λ (x : ℕ). x ∷ drop (suc next) bytes) (sym b) in
      window (byte ∷ others) (ap (take left) first ∙ take_some left byte (drop (suc next) bytes) some)
      ∙ ends_last most (top field) start (length bytes) front walked.carries byte others small (omega arith)
      ∙ simp (n, ← t, ← walked.stands, ← walked.weighs, ← walked.lowest)
