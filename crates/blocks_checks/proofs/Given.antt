-- Laws of blocks as they are given: sizes and vectors are accepted exactly if each is, and where a block's vector starts and ends. Assumes nothing.
use mathlib.Core.Path.{◌≡◌, refl, sym, ap, ap₂, ◌∙◌}
use mathlib.Core.Bool.{true, not, ◌&&◌}
use mathlib.Core.List.{List}
use Prim.Native.Nat.{ℕ, zero, suc, ◌+◌, ◌-◌, ◌*◌, ◌≤◌, ◌<◌}
use native.Mathlib.Nat.{le_of_eq, lt_of_lt_of_le, add_assoc}
use native.Mathlib.Numerals.{add-one}
use native.Mathlib.Omega.{arith}
use lib.Dec.{leb}
use lib.IntN.{ℤ}
use lib.ListN.{length, take, drop}
use Rattle.std.specs.List.{sum}
use Rattle.std.specs.Prelude.{Ok, Err}
use Rattle.std.proofs.lemmas.List.{take_all}
use Rattle.std.proofs.lemmas.List.Sums.{sum_by_more}
use Rattle.answer.specs.Outcome.{at}
use Rattle.answer.specs.declared.Reason.TheVariants.{WrongPartCount}
use Rattle.answer.specs.declared.Refusal.{Refusal}
use Rattle.answer.proofs.Checks.{parts_right, parts_passed}
use Rattle.answer.proofs.Outcomes.{refuse_held}
use Rattle.theory_sums.specs.Sums.{sum_below}
use Rattle.theory_sums.proofs.Sums.{sum_below_add, sum_below_ones, sum_below_prefix, sum_below_le, sum_below_mul}
use Rattle.theory_blocks.specs.Blocks.{parts_in}
use Rattle.blocks_checks.specs.Given.{size_at, start_of, block_vector}
use Rattle.blocks_checks.specs.Refusals.{sizes_refusal, block_refusal, vectors_refusal}
use Rattle.blocks_checks.proofs.Firsts.{each_accepted, all_accepted, first_refused}

module _ (sizes : List ℕ) where
  -- ---- sizes

  pub sizes_right : (r : ℕ) → sizes_refusal sizes r ≡ Ok tt → (b : ℕ) → b < r → (1 ≤ size_at sizes b) × (size_at sizes b ≤ 16)
  sizes_right r h b below =
      let right = parts_right 0 (size_at sizes b) (Ok tt) (each_accepted _ r h b below) in
      (right.0, right.1)

  pub sizes_accepted : (r : ℕ) → ((b : ℕ) → b < r → (1 ≤ size_at sizes b) × (size_at sizes b ≤ 16)) → sizes_refusal sizes r ≡ Ok tt
  sizes_accepted r sized =
      all_accepted _ r (λ b below. parts_passed 0 (size_at sizes b) (Ok tt) (sized b below).0 (sized b below).1)

  -- the first size that is not 1 to 16
  pub sizes_refused : (b : ℕ) → sizes_refusal sizes b ≡ Ok tt → not (leb 1 (size_at sizes b) && leb (size_at sizes b) 16) ≡ true
      → (r : ℕ) → b < r → sizes_refusal sizes r ≡ Err (at WrongPartCount 0)
  sizes_refused b passed wrong = first_refused _ b passed (refuse_held _ WrongPartCount 0 (Ok tt) wrong)

  pub parts_few : (r : ℕ) → sizes_refusal sizes r ≡ Ok tt → (b : ℕ) → b ≤ r → parts_in (size_at sizes) b ≤ 16 * b
  parts_few r h b inside =
      let each : (c : ℕ) → c < b → size_at sizes c ≤ 16 * 1 = λ c below. (sizes_right r h c (lt_of_lt_of_le below inside)).1 in
      omega (arith, sum_below_le (size_at sizes) (λ c. 16 * 1) b each, sum_below_mul 16 (λ c. 1) b, sum_below_ones b)

  -- the sum of the list
  sum_parts : (b : ℕ) → b ≤ length sizes → sum (take b sizes) ≡ parts_in (size_at sizes) b
  unfolding sum_below
  sum_parts zero h = refl
  sum_parts (suc b) h =
      ap (λ (k : ℕ). sum (take k sizes)) (sym (add-one b)) ∙ sum_by_more (λ x. x) sizes b 0 h
      ∙ ap (λ (u : ℕ). u + size_at sizes b) (sum_parts b (omega arith))

  pub all_parts : length sizes ≤ 16 → sizes_refusal sizes (length sizes) ≡ Ok tt → (sum sizes ≡ parts_in (size_at sizes) (length sizes)) × (sum sizes ≤ 256)
  all_parts few h =
      let all : sum sizes ≡ parts_in (size_at sizes) (length sizes) = ap sum (sym (take_all (length sizes) sizes (le_of_eq refl))) ∙ sum_parts (length sizes) (le_of_eq refl) in
      (all, omega (arith, all, parts_few (length sizes) h (length sizes) (le_of_eq refl)))

  -- ---- starts

  pub start_parts : (b : ℕ) → start_of sizes b ≡ parts_in (size_at sizes) b + b
  unfolding start_of
  start_parts b = sum_below_add (size_at sizes) (λ c. 1) b ∙ ap (λ (u : ℕ). parts_in (size_at sizes) b + u) (sum_below_ones b)

  -- a block's vector ends where the next one starts
  pub start_next : (b : ℕ) → start_of sizes (b + 1) ≡ start_of sizes b + size_at sizes b + 1
  unfolding start_of sum_below
  start_next b = ap (start_of sizes) (add-one b) ∙ sym (add_assoc (start_of sizes b) (size_at sizes b) 1)

  -- and not behind the last
  pub start_inside : (b r : ℕ) → b < r → start_of sizes b + size_at sizes b + 1 ≤ start_of sizes r
  unfolding start_of
  start_inside b r below = omega (arith, start_next b, sum_below_prefix (λ c. size_at sizes c + 1) (b + 1) r (omega arith))

module _ (sizes : List ℕ) (vectors : List ℤ) where
  -- ---- vectors

  -- the part of the list that is a block's vector
  pub part_vector : (b start : ℕ) → start ≡ start_of sizes b → take (start + size_at sizes b + 1 - start) (drop start vectors) ≡ block_vector sizes vectors b
  part_vector b start e =
      let long : start + size_at sizes b + 1 - start ≡ size_at sizes b + 1 = omega arith in
      ap₂ (λ (n s : ℕ). take n (drop s vectors)) long e

  pub vectors_right : (r : ℕ) → vectors_refusal sizes vectors r ≡ Ok tt
      → (b : ℕ) → b < r → block_refusal sizes vectors b ≡ Ok tt
  vectors_right = each_accepted (block_refusal sizes vectors)

  pub vectors_accepted : (r : ℕ) → ((b : ℕ) → b < r → block_refusal sizes vectors b ≡ Ok tt)
      → vectors_refusal sizes vectors r ≡ Ok tt
  vectors_accepted = all_accepted (block_refusal sizes vectors)

  -- the first vector that is refused
  pub vectors_refused : (b : ℕ) {why : Refusal} → vectors_refusal sizes vectors b ≡ Ok tt
      → block_refusal sizes vectors b ≡ Err why → (r : ℕ) → b < r → vectors_refusal sizes vectors r ≡ Err why
  vectors_refused b passed wrong = first_refused (block_refusal sizes vectors) b passed wrong
