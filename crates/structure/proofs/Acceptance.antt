-- Laws of acceptance: what an accepted table and an accepted list are, that acceptance is semicoherence, and the way from lists to tables
-- to minimal sets and back.
-- Assumes nothing.
use mathlib.Core.Path.{◌≡◌, refl, sym, ap, ◌∙◌, subst, fun_ext}
use mathlib.Core.Bool.{Bool, true, false, not, ◌&&◌}
use mathlib.Core.List.Memᴰ
use mathlib.Core.List.{List, [], ◌∷◌, Memᴰ}
use mathlib.Core.Logic.{◌⊎◌, inl, inr}
use Prim.Native.Nat.{ℕ, suc, ◌+◌, ◌-◌, ◌*◌, ◌^◌, ◌≤◌, ◌<◌}
use native.Mathlib.Nat.{pos_of_ne-zero, lt_irrefl, lt_of_lt_of_le, lt_of_le_of_lt, zero-add}
use native.Mathlib.Numerals.{add-one}
use native.Mathlib.Omega.{arith}
use lib.Dec.{leb, ltb, eqb}
use lib.ListN.{length, get_or, drop, drop_of_length-le}
use lib.Pow.{ones_lt, pow-add}
use lib.Seq.{drop-cons}
use borrow.Author.Tests.{eqb-true, eqb-false, eq-eqb, ne_eqb, leb-true, leb-false, le-leb, lt-leb, ltb-true, ltb-false, lt-ltb, le-ltb, not-false}
use Rattle.std.specs.Prelude.{Ok}
use Rattle.answer.specs.Outcome.{refuse}
use Rattle.answer.specs.declared.Reason.TheVariants.{WrongPartCount, EmptyList, LongList, UnknownPart, EmptySet, WrongTableLength, UnusedBit, EmptySetWorks, FullSetFails, BrokenSet}
use Rattle.answer.proofs.Outcomes.{refuse_accepted, refuse_passed}
use Rattle.numbers.specs.Counts.{up_to_16}
use Rattle.numbers.proofs.Counts.{up_to_16_given}
use Rattle.theory_orders.specs.Antichains.{most_sets}
use Rattle.theory_orders.proofs.Sperner.{minimal_sets_most}
use Rattle.theory_sets.specs.Masks.{has, holds, any, least, Rising}
use Rattle.theory_sets.specs.Structures.{Covers, Semicoherent, listed, broken, minimal, minimal_sets}
use Rattle.theory_sets.specs.Tables.{packed, in_table, table_of, table_length}
use Rattle.numbers.proofs.Bools.{and_left, and_right, and_both, clash}
use Rattle.theory_sets.proofs.Lists.{listed_same, listed_semicoherent, minimal_listed, listed_minimal, some_entry}
use Rattle.numbers.proofs.Bounds.{below_or_above}
use Rattle.theory_sets.proofs.Ranges.{any_false, any_none, any_same, those_elim, those_intro}
use Rattle.theory_sets.proofs.Structures.{upward_by_parts, by_parts_upward, unbroken_by_parts, by_parts_unbroken, minimal_works, minimal_below, semicoherent_same, minimal_sets_same}
use Rattle.theory_sets.proofs.Tables.{packed_unique, in_table_at, in_table_beyond, table_of_length, table_of_at, table_of_works, table_length_small, table_length_large}
use Rattle.numbers.proofs.Tables.{tabulate_unique}
use Rattle.structure.specs.Accepted.{AcceptedTable}
use Rattle.structure.specs.Checks.{entries_refusal, list_refusal, unused, table_refusal}

-- ---- the length of a table

pub length_one : (n : ℕ) → n < 3 → up_to_16 n (table_length n) ≡ 1
length_one n h = up_to_16_given n _ (omega arith) ∙ table_length_small n h

pub length_eighth : (n k : ℕ) → 3 ≤ n → n ≤ 16 → k ≡ n - 3 → up_to_16 k (2 ^ k) ≡ up_to_16 n (table_length n)
length_eighth n k many few e =
    let whole : 8 * table_length n ≡ 2 ^ n = table_length_large n many in
    let eights : 2 ^ n ≡ 2 ^ 3 * 2 ^ k = ap (λ (j : ℕ). 2 ^ j) (omega (arith, e)) ∙ pow-add 2 3 k in
    up_to_16_given k _ (omega arith) ∙ omega (arith, whole, eights) ∙ sym (up_to_16_given n (table_length n) few)

-- ---- an accepted table

parts_in_lem : (n : ℕ) → not (leb 1 n && leb n 16) ≡ false → (1 ≤ n) × (n ≤ 16)
parts_in_lem n h =
    let both : leb 1 n && leb n 16 ≡ true = not-false (leb 1 n && leb n 16) h in
    (leb-true 1 n (and_left (leb 1 n) (leb n 16) both), leb-true n 16 (and_right (leb 1 n) (leb n 16) both))

in_parts : (n : ℕ) → 1 ≤ n → n ≤ 16 → not (leb 1 n && leb n 16) ≡ false
in_parts n some few = ap not (and_both (le-leb 1 n some) (le-leb n 16 few))

pub accepted_table : (n : ℕ) (table : List ℕ) → table_refusal n table ≡ Ok tt → AcceptedTable n table
unfolding table_refusal
accepted_table n table h =
    let c1 = refuse_accepted _ _ _ _ h in
    let c6 = refuse_accepted _ _ _ _ c1.1 in
    let c7 = refuse_accepted _ _ _ _ c6.1 in
    let c8 = refuse_accepted _ _ _ _ c7.1 in
    let c9 = refuse_accepted _ _ _ _ c8.1 in
    let c10 = refuse_accepted _ _ _ _ c9.1 in
    let parts = parts_in_lem n c1.0 in
    record {
      some = parts.0;
      few = parts.1;
      long = eqb-true (length table) (table_length n) (not-false (eqb (length table) (table_length n)) c6.0);
      clear = c7.0;
      semicoherent = record {
        upward = by_parts_upward n (in_table table) (unbroken_by_parts n (in_table table) c10.0);
        empty = c8.0;
        full = not-false (in_table table (2 ^ n - 1)) c9.0;
      };
    }

pub table_accepted : (n : ℕ) (table : List ℕ) → AcceptedTable n table → table_refusal n table ≡ Ok tt
unfolding table_refusal
table_accepted n table t =
    let sc = t.semicoherent in
    refuse_passed _ WrongPartCount 0 _ (in_parts n t.some t.few)
    ∙ refuse_passed _ WrongTableLength 0 _ (ap not (eq-eqb (length table) (table_length n) t.long))
    ∙ refuse_passed _ UnusedBit 0 _ t.clear
    ∙ refuse_passed _ EmptySetWorks 0 _ sc.empty
    ∙ refuse_passed _ FullSetFails 0 _ (ap not sc.full)
    ∙ refuse_passed _ BrokenSet (least (broken n (in_table table)) (2 ^ n)) (Ok tt)
    (by_parts_unbroken n (in_table table) (upward_by_parts n (in_table table) sc.upward))

-- the unused bits are those of the first byte
pub unused_first : (n : ℕ) (table : List ℕ) → unused n table ≡ any (λ a. leb (2 ^ n) a && has (get_or table 0 0) a) 8
unused_first n table =
    any_same (λ a. leb (2 ^ n) a && in_table table a) (λ a. leb (2 ^ n) a && has (get_or table 0 0) a) 8 (λ a h.
    ap (λ (p : Bool). leb (2 ^ n) a && p) (ap (in_table table) (sym (zero-add a)) ∙ in_table_at table 0 a h))

-- a table of the right length with no unused bit has no bit for a set beyond those of n parts
pub table_beyond : (n : ℕ) (table : List ℕ) → length table ≡ table_length n → unused n table ≡ false → (a : ℕ) → 2 ^ n ≤ a → in_table table a ≡ false
table_beyond n table long clear a h = cases (below_or_above n 3)
  where
    cases : (n < 3) ⊎ (3 ≤ n) → in_table table a ≡ false
    cases (inr large) =
        let whole : 8 * table_length n ≡ 2 ^ n = table_length_large n large in
        in_table_beyond table a (omega (arith, long))
    cases (inl small) = byte (below_or_above a 8)
      where
        byte : (a < 8) ⊎ (8 ≤ a) → in_table table a ≡ false
        byte (inl low) = rw (le-leb (2 ^ n) a h) at (any_none (λ a. leb (2 ^ n) a && in_table table a) 8 a clear low)
        byte (inr high) = in_table_beyond table a (omega (arith, long, table_length_small n small))

-- the table of a semicoherent structure is accepted
pub table_of_accepted : (n : ℕ) (works : ℕ → Bool) → 1 ≤ n → n ≤ 16 → Semicoherent n works → table_refusal n (table_of n works) ≡ Ok tt
table_of_accepted n works some few sc =
    table_accepted n (table_of n works) (record {
      some = some;
      few = few;
      long = table_of_length n works;
      clear = any_false (λ a. leb (2 ^ n) a && in_table (table_of n works) a) 8 (λ a ha t.
          let above : 2 ^ n ≤ a = leb-true (2 ^ n) a (and_left (leb (2 ^ n) a) (in_table (table_of n works) a) t) in
          let inside : ltb a (2 ^ n) && works a ≡ true =
          sym (table_of_at n works a (omega arith)) ∙ and_right (leb (2 ^ n) a) (in_table (table_of n works) a) t in
          lt_irrefl a (lt_of_lt_of_le (ltb-true a (2 ^ n) (and_left (ltb a (2 ^ n)) (works a) inside)) above));
      semicoherent = semicoherent_same n works (in_table (table_of n works)) (λ a ha. sym (table_of_works n works a ha)) sc;
    })

-- ---- an accepted list

pub record AcceptedList (n : ℕ) (list : List ℕ) : Type 0 where
  pub some : 1 ≤ n
  pub few : n ≤ 16
  pub any_set : 1 ≤ length list
  pub most : length list ≤ most_sets
  pub sets : (b : ℕ) → Memᴰ b list → (b < 2 ^ n) × (0 < b)

entries_accepted : (n index : ℕ) (list : List ℕ) → entries_refusal n index list ≡ Ok tt → (b : ℕ) → Memᴰ b list → (b < 2 ^ n) × (0 < b)
unfolding entries_refusal
entries_accepted n index [] h b m = absurd (Memᴰ.not-nil m)
entries_accepted n index (x ∷ xs) h b m = cases (Memᴰ.cases_cons m) (entries_accepted n (suc index) xs c5.1 b)
  where
    c4 : (leb (2 ^ n) x ≡ false) × (refuse (eqb x 0) EmptySet index (entries_refusal n (suc index) xs) ≡ Ok tt)
    c4 = refuse_accepted _ _ _ _ h

    c5 : (eqb x 0 ≡ false) × (entries_refusal n (suc index) xs ≡ Ok tt)
    c5 = refuse_accepted _ _ _ _ c4.1

    cases : (b ≡ x) ⊎ Memᴰ b xs → (Memᴰ b xs → (b < 2 ^ n) × (0 < b)) → (b < 2 ^ n) × (0 < b)
    cases (inl e) rest =
        subst (λ (y : ℕ). (y < 2 ^ n) × (0 < y)) (sym e) (leb-false (2 ^ n) x c4.0, pos_of_ne-zero (eqb-false x 0 c5.0))
    cases (inr later) rest = rest later

accepted_entries : (n index : ℕ) (list : List ℕ) → ((b : ℕ) → Memᴰ b list → (b < 2 ^ n) × (0 < b)) → entries_refusal n index list ≡ Ok tt
unfolding entries_refusal
accepted_entries n index [] good = refl
accepted_entries n index (x ∷ xs) good =
    let first = good x (Memᴰ.head refl) in
    refuse_passed _ UnknownPart index _ (lt-leb (2 ^ n) x first.0)
    ∙ refuse_passed _ EmptySet index _ (ne_eqb x 0 (λ e. lt_irrefl 0 (subst (λ (y : ℕ). 0 < y) e first.1)))
    ∙ accepted_entries n (suc index) xs (λ b m. good b (Memᴰ.tail m))

-- the entries from an index on: this one's checks, and then the entries after it
pub entries_from : (n i : ℕ) (list : List ℕ) → i < length list → entries_refusal n i (drop i list)
    ≡ refuse (leb (2 ^ n) (get_or list i 0)) UnknownPart i (refuse (eqb (get_or list i 0) 0) EmptySet i (entries_refusal n (i + 1) (drop (i + 1) list)))
unfolding entries_refusal
entries_from n i list h =
    ap (entries_refusal n i) (drop-cons list i 0 h)
    ∙ ap (λ (k : ℕ). refuse (leb (2 ^ n) (get_or list i 0)) UnknownPart i (refuse (eqb (get_or list i 0) 0) EmptySet i (entries_refusal n k (drop k list)))) (sym (add-one i))

-- behind the last entry nothing is refused
pub entries_ended : (n i : ℕ) (list : List ℕ) → length list ≤ i → entries_refusal n i (drop i list) ≡ Ok tt
unfolding entries_refusal
entries_ended n i list h = ap (entries_refusal n i) (drop_of_length-le list h)

pub accepted_list : (n : ℕ) (list : List ℕ) → list_refusal n list ≡ Ok tt → AcceptedList n list
unfolding list_refusal
accepted_list n list h =
    let c1 = refuse_accepted _ _ _ _ h in
    let c2 = refuse_accepted _ _ _ _ c1.1 in
    let c3 = refuse_accepted _ _ _ _ c2.1 in
    let parts = parts_in_lem n c1.0 in
    record {
      some = parts.0;
      few = parts.1;
      any_set = pos_of_ne-zero (eqb-false (length list) 0 c2.0);
      most = ltb-false most_sets (length list) c3.0;
      sets = entries_accepted n 0 list c3.1;
    }

pub list_accepted : (n : ℕ) (list : List ℕ) → AcceptedList n list → list_refusal n list ≡ Ok tt
unfolding list_refusal
list_accepted n list l =
    refuse_passed _ WrongPartCount 0 _ (in_parts n l.some l.few)
    ∙ refuse_passed _ EmptyList 0 _ (ne_eqb (length list) 0 (λ e. lt_irrefl 0 (subst (λ (k : ℕ). 0 < k) e l.any_set)))
    ∙ refuse_passed _ LongList 0 _ (le-ltb most_sets (length list) l.most)
    ∙ accepted_entries n 0 list l.sets

-- ---- lists, tables and minimal sets

-- an accepted list gives a semicoherent structure
pub listed_coherent : (n : ℕ) (list : List ℕ) → AcceptedList n list → Semicoherent n (listed list)
listed_coherent n list l = listed_semicoherent n list l.any_set l.sets

-- an accepted list's table is accepted
pub list_table : (n : ℕ) (list : List ℕ) → list_refusal n list ≡ Ok tt → table_refusal n (table_of n (listed list)) ≡ Ok tt
list_table n list h =
    let l = accepted_list n list h in
    table_of_accepted n (listed list) l.some l.few (listed_coherent n list l)

-- a set is a path set of it exactly if it holds a listed one
pub list_works : (n : ℕ) (list : List ℕ) (a : ℕ) → a < 2 ^ n → in_table (table_of n (listed list)) a ≡ listed list a
list_works n list a h = table_of_works n (listed list) a h

-- repeats, nesting and order in a list do not matter
pub list_same : (n : ℕ) (xs ys : List ℕ) → Covers xs ys → Covers ys xs → table_of n (listed xs) ≡ table_of n (listed ys)
list_same n xs ys there back = ap (table_of n) (fun_ext (listed_same xs ys there back))

-- an accepted table of bytes is the table of every structure that has its path sets
pub table_back : (n : ℕ) (table : List ℕ) (works : ℕ → Bool) → ((b : ℕ) → get_or table b 0 < 256) → table_refusal n table ≡ Ok tt
    → ((a : ℕ) → a < 2 ^ n → works a ≡ in_table table a) → table_of n works ≡ table
unfolding table_of
table_back n table works bytes h same =
    sym (tabulate_unique (table_length n) (λ b. packed 8 (λ i. ltb (8 * b + i) (2 ^ n) && works (8 * b + i))) table 0 t.long (λ b l.
    packed_unique 8 (λ i. ltb (8 * b + i) (2 ^ n) && works (8 * b + i)) (get_or table b 0) (bytes b) (λ i k.
    sym (in_table_at table b i k) ∙ bit (8 * b + i) (below_or_above (8 * b + i) (2 ^ n)))))
  where
    t : AcceptedTable n table
    t = accepted_table n table h

    bit : (a : ℕ) → (a < 2 ^ n) ⊎ (2 ^ n ≤ a) → in_table table a ≡ ltb a (2 ^ n) && works a
    bit a (inl below) = sym (rw (lt-ltb a (2 ^ n) below) (same a below))
    bit a (inr above) = table_beyond n table t.long t.clear a above ∙ sym (rw (le-ltb a (2 ^ n) above))

-- the minimal sets of an accepted table are an accepted list
pub minimal_accepted : (n : ℕ) (table : List ℕ) → table_refusal n table ≡ Ok tt → list_refusal n (minimal_sets n (in_table table)) ≡ Ok tt
minimal_accepted n table h =
    list_accepted n (minimal_sets n (in_table table)) (record {
      some = t.some;
      few = t.few;
      any_set = some_entry (minimal_sets n (in_table table))
          (those_intro (minimal n (in_table table)) (2 ^ n) least_set.0 (lt_of_le_of_lt least_set.1 (ones_lt n)) least_set.2);
      most = minimal_sets_most n (in_table table) t.few;
      sets = λ b m.
          let found = those_elim (minimal n (in_table table)) (2 ^ n) b m in
          (found.0, pos_of_ne-zero (λ e. clash (minimal_works n (in_table table) b found.1) (ap (in_table table) e ∙ t.semicoherent.empty)));
    })
  where
    t : AcceptedTable n table
    t = accepted_table n table h

    least_set : (b : ℕ) × (b ≤ 2 ^ n - 1) × (minimal n (in_table table) b ≡ true) × (holds (2 ^ n - 1) b ≡ true)
    least_set = minimal_below n (in_table table) (2 ^ n - 1) t.semicoherent.full

-- and they give back the same table
pub minimal_table : (n : ℕ) (table : List ℕ) → ((b : ℕ) → get_or table b 0 < 256) → table_refusal n table ≡ Ok tt
    → table_of n (listed (minimal_sets n (in_table table))) ≡ table
minimal_table n table bytes h =
    table_back n table (listed (minimal_sets n (in_table table))) bytes h (minimal_listed n (in_table table) (accepted_table n table h).semicoherent)

-- a rising list of sets none of which holds another is the minimal sets of its table
pub list_minimal : (n : ℕ) (list : List ℕ) → list_refusal n list ≡ Ok tt → Rising list
    → ((a b : ℕ) → Memᴰ a list → Memᴰ b list → holds a b ≡ true → a ≡ b) → minimal_sets n (in_table (table_of n (listed list))) ≡ list
list_minimal n list h rising apart =
    minimal_sets_same n (in_table (table_of n (listed list))) (listed list) (table_of_works n (listed list))
    ∙ listed_minimal n list rising (λ b m. ((accepted_list n list h).sets b m).0) apart
