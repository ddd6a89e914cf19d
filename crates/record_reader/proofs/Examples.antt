-- The definitions on the bridge, in both editions, and where a number of two bytes stands: they compute.
-- Assumes nothing.
use mathlib.Core.Path.{◌≡◌, refl}
use mathlib.Core.List.{List, [], ◌∷◌}
use Prim.Native.Nat.{ℕ}
use Rattle.codec.specs.Reading.{number_in, number_at}
use Rattle.record_reader.specs.Places.{here, set_at, met_from}
use Rattle.std.specs.Prelude.{None}

-- 01's bridge: 05 05 01 02 03 04 05 04 09 0E 12 15
abbrev bridge : List ℕ
bridge = 5 ∷ 5 ∷ 1 ∷ 2 ∷ 3 ∷ 4 ∷ 5 ∷ 4 ∷ 9 ∷ 14 ∷ 18 ∷ 21 ∷ []

second_set : set_at bridge 9 ≡ here 14 10
unfolding set_at number_at number_in
second_set = refl

behind_the_last : set_at bridge 12 ≡ None
unfolding set_at number_at number_in
behind_the_last = refl

bridge_met : met_from 5 bridge (set_at bridge 8) ≡ 9 ∷ 14 ∷ 18 ∷ 21 ∷ []
unfolding set_at number_at number_in
bridge_met = refl

-- the bridge in edition 2, with no retired number: 00 02 05 05 01 02 03 04 05 04 09 0E 12 15 00 00 00 02 08 05 01
abbrev second_bridge : List ℕ
second_bridge = 0 ∷ 2 ∷ 5 ∷ 5 ∷ 1 ∷ 2 ∷ 3 ∷ 4 ∷ 5 ∷ 4 ∷ 9 ∷ 14 ∷ 18 ∷ 21 ∷ 0 ∷ 0 ∷ 0 ∷ 2 ∷ 8 ∷ 5 ∷ 1 ∷ []

abbrev stretch : List ℕ
stretch = 9 ∷ 14 ∷ 18 ∷ 21 ∷ []

-- its four sets, behind which a fifth move finds the count of the retired numbers and no end; in the stretch of the sets alone it finds the end
second_met :
    met_from 4 second_bridge (set_at second_bridge 10) ∷ met_from 5 second_bridge (set_at second_bridge 10) ∷ met_from 5 stretch (set_at stretch 0) ∷ []
    ≡ (9 ∷ 14 ∷ 18 ∷ 21 ∷ []) ∷ (9 ∷ 14 ∷ 18 ∷ 21 ∷ 0 ∷ []) ∷ (9 ∷ 14 ∷ 18 ∷ 21 ∷ []) ∷ []
unfolding set_at number_at number_in
second_met = refl

-- 300 is AC 02, and a place inside it is not the place of a set of the record: what stands there is read for itself
two_bytes : set_at (1 ∷ 0xAC ∷ 2 ∷ []) 1 ≡ here 300 3
unfolding set_at number_at number_in
two_bytes = refl

inside_a_set : set_at (1 ∷ 0xAC ∷ 2 ∷ []) 2 ≡ here 2 3
unfolding set_at number_at number_in
inside_a_set = refl

-- no number stands where the bytes end inside it
end_inside : set_at (1 ∷ 0xAC ∷ []) 1 ≡ None
unfolding set_at number_at number_in
end_inside = refl
