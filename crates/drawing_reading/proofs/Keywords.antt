-- A keyword at a position of a text: what `starts_with` asks.
-- Assumes nothing.
use mathlib.Core.Path.{◌≡◌, refl, sym, ap, ◌∙◌}
use mathlib.Core.List.{List, [], ◌∷◌}
use Prim.Native.Nat.{ℕ, ◌-◌}
use native.Mathlib.Omega.{arith}
use lib.Dec.{eqb}
use lib.ListN.{length, take, drop, length-drop}
use lib.Seq.{take_all}
use Rattle.std.specs.Cmp.Lexicographic.{pointwise}
use Rattle.std.specs.List.{starts_with}
use Rattle.std.proofs.lemmas.Bool.Decides.{nat_tests}
use Rattle.drawing_text.specs.Forms.{same_bytes}

same_turned : (word bytes : List ℕ) → same_bytes bytes word ≡ pointwise eqb word bytes
same_turned [] [] = refl
same_turned [] (b ∷ bs) = refl
same_turned (w ∷ ws) [] = refl
same_turned (w ∷ ws) (b ∷ bs) = rw (one, same_turned ws bs) refl
  where
    one : eqb b w ≡ eqb w b
    one = grind (arith, nat_tests)

pub word_found : (text word : List ℕ) (at : ℕ) → same_bytes (take (length word) (drop at text)) word ≡ starts_with eqb (take (length text - at) (drop at text)) word
word_found text word at =
    same_turned word (take (length word) (drop at text))
    ∙ ap (λ (rest : List ℕ). starts_with eqb rest word) (sym (take_all (length text - at) (drop at text) (omega (arith, length-drop at text))))
