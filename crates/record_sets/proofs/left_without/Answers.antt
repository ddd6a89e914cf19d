-- `record_sets::left_without` meets its contract: each set that has no part of the group is counted.
-- Assumes nothing.
use mathlib.Core.Path.{◌≡◌, refl, ap, ◌∙◌}
use mathlib.Core.Bool.{Bool, true, false, not, cond}
use mathlib.Core.List.{List, [], ◌∷◌, map}
use Prim.Native.Nat.{ℕ, suc}
use lib.ListN.{length}
use Rattle.std.proofs.Common.{rules, tests}
use Rattle.std.specs.List.{filter}
use Rattle.std.proofs.lemmas.Iterator.{YieldsList-from_slice}
use Rattle.std.proofs.lemmas.Iterator.Consumers.{YieldsList-from_filter, count_from_yields_List}
use Rattle.masks.specs.Groups.{meets, squeezed}
use Rattle.record_lines.specs.Changes.{keep, sets_without}
use Rattle.record_sets.proofs.left_without.Goals as goal

counted : (group : ℕ) (sets : List ℕ) → length (filter (λ set. not (meets group set)) sets) ≡ length (sets_without group sets)
unfolding sets_without
counted group [] = refl
counted group (x ∷ xs) = cases (not (meets group x)) (counted group xs)
  where
    cases : (p : Bool) → length (filter (λ set. not (meets group set)) xs) ≡ length (map (squeezed 16 group) (keep (λ set. not (meets group set)) xs))
        → length (cond p (x ∷ filter (λ set. not (meets group set)) xs) (filter (λ set. not (meets group set)) xs))
        ≡ length (map (squeezed 16 group) (cond p (x ∷ keep (λ set. not (meets group set)) xs) (keep (λ set. not (meets group set)) xs)))
    cases true later = ap suc later
    cases false later = later

pub returns : goal.returns
returns c =
    count_from_yields_List _ _ c.count.ensures.ran (YieldsList-from_filter _ (λ set. not (meets c.args.group set)) (YieldsList-from_slice c.args.sets.now cc) c.filter.ensures.closure (λ x b q k. search (rules, tests)))
    ∙ counted c.args.group c.args.sets.now
