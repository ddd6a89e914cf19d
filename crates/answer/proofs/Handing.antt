-- A result that is made is copied to the front of a lent buffer, cell by cell, and then delivered. Assumes nothing.
use mathlib.Core.Path.{◌≡◌, sym, ap, ◌∙◌, subst}
use mathlib.Core.List.{List, [], ◌∷◌, ◌++◌}
use Prim.Native.Nat.{ℕ, ◌+◌, ◌≤◌, ◌<◌}
use native.Mathlib.Numerals.{add-one}
use native.Mathlib.Omega.{arith}
use lib.ListN.{length, get_or, take, set}
use lib.Seq.{take-suc, take_all, length-take-le}
use Rattle.std.specs.Prelude.{Ok}
use Rattle.answer.specs.Outcome.{outcome, delivered}
use Rattle.answer.proofs.Outcomes.{InFront, in_front_none, in_front_one, in_front_length, in_front_delivered}

-- the first cells of a result are in front of a buffer, all else is as it was, and the whole has room
pub record Handed {A : Type 0} (made buffer now : List A) (i : ℕ) : Type 0 where
  pub inside : i ≤ length made
  pub fits : length made ≤ length buffer
  pub stands : InFront buffer (take i made) now i

module _ {A : Type 0} (made buffer : List A) where
  pub handed_none : length made ≤ length buffer → Handed made buffer buffer 0
  handed_none fits = record { inside = omega arith; fits = fits; stands = in_front_none buffer }

module _ {A : Type 0} {made buffer now : List A} {i : ℕ} (before : Handed made buffer now i) where
  pub handed_length : length now ≡ length buffer
  handed_length =
      in_front_length buffer (take i made) now i before.stands (omega (arith, length-take-le i made before.inside, before.fits, before.inside))

  -- the next cell
  pub handed_one : (filler value : A) → value ≡ get_or made i filler → i < length made → Handed made buffer (set now i value) (i + 1)
  handed_one filler value is more =
      let long : length (take i made) ≡ i = length-take-le i made before.inside in
      let longer : take i made ++ (value ∷ []) ≡ take (i + 1) made =
      ap (λ (x : A). take i made ++ (x ∷ [])) is ∙ sym (ap (λ (k : ℕ). take k made) (add-one i) ∙ take-suc made i filler more) in
      record {
        inside = omega arith;
        fits = before.fits;
        stands = subst (λ (xs : List A). InFront buffer xs (set now i value) (i + 1)) longer
            (in_front_one buffer (take i made) now i value before.stands (omega (arith, long, before.fits)));
      }

  -- all of them
  pub handed_all : length made ≤ i → outcome (Ok (length made)) now ≡ delivered (Ok tt) made buffer
  handed_all all =
      let end : i ≡ length made = omega (arith, before.inside) in
      let whole : take i made ≡ made = take_all i made all in
      ap (λ (k : ℕ). outcome (Ok k) now) (sym end)
      ∙ in_front_delivered buffer made now i (subst (λ (xs : List A). InFront buffer xs now i) whole before.stands) before.fits
