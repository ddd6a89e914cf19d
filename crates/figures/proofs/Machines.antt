-- An accepted table in words: the words say what the table says, the sets of each size in the words are its path counts, and so for the sets
-- with a part, from which its importance comes. Assumes nothing.
use mathlib.Core.Path.{◌≡◌, sym, ap, ap₂, subst, ◌∙◌, fun_ext}
use mathlib.Core.Bool.{Bool, false, ◌&&◌, ◌||◌, and-true}
use mathlib.Core.List.{List}
use mathlib.Core.Logic.{◌⊎◌, inl, inr}
use Prim.Native.Nat.{ℕ, suc, zero-le, ◌+◌, ◌-◌, ◌*◌, ◌/◌, ◌%◌, ◌^◌, ◌≤◌, ◌<◌}
use native.Mathlib.Nat.{le_trans, le_of_eq, add-sub_cancel_left, zero-lt-suc}
use native.Mathlib.Omega.{arith}
use lib.ListN.{length, get_or, take, drop, get_or-eq_default}
use lib.IntN.{ℤ, pos}
use lib.Pow.{pow_mono}
use lib.Seq.{get_or-take, length-take-le}
use borrow.Author.Tests.{lt-leb}
use Rattle.numbers.specs.Tables.{tabulate, NoneOver}
use Rattle.numbers.proofs.Tables.{tabulate_few, tabulate_at, tabulate_length, tabulate_unique}
use Rattle.theory_sums.specs.Sums.{sum_below}
use Rattle.theory_sets.specs.Masks.{has}
use Rattle.theory_sets.specs.Tables.{in_table}
use Rattle.theory_sets.proofs.Masks.{has_above}
use Rattle.numbers.proofs.Bounds.{below_or_above}
use Rattle.theory_orders.specs.Formulas.{path_count}
use Rattle.numbers.specs.Counts.{factorial, up_to_16}
use Rattle.numbers.proofs.Counts.{factorials_few, up_to_16_given}
use Rattle.structure_words.specs.Words.{in_words, word_of, words_of}
use Rattle.structure_words.proofs.Words.{in_words_words_of}
use Rattle.structure.specs.Accepted.{AcceptedTable}
use Rattle.structure.proofs.Acceptance.{table_beyond}
use Rattle.theory_figures.specs.Figures.{importance, path_counts, importances}
use Rattle.figures_counts.specs.Rows.{has_part, rows_of, row}
use Rattle.figures.specs.Inside.{counts_of, entries_of, sized_in, rows_in, part_weight, added_sets, taken_sets, Parted, importance_by, Rows}
use Rattle.theory_figures.proofs.Sizes.{path_count_few, path_count_beyond}
use Rattle.numbers.proofs.Tables.{tabulate_same}
use Rattle.figures_counts.proofs.Rows.{row_is}
use Rattle.figures_counts.proofs.Sizes.{path_count_near}
use Rattle.theory_figures.proofs.Importances.{with_part, with_part_fewer, importance_by_size}

-- ---- the words of a table

-- words are false beyond the last
words_beyond : (works : ℕ → Bool) (a : ℕ) → 65536 ≤ a → in_words (words_of works) a ≡ false
unfolding in_words
words_beyond works a h =
    ap (λ (w : ℕ). has w (a % 64))
    (get_or-eq_default (words_of works) 0 (le_trans (le_of_eq (tabulate_length 1024 (word_of works))) (let far : 1024 ≤ a / 64 = omega arith in far)))
    ∙ has_above 0 0 (a % 64) (zero-lt-suc 0) zero-le

pub words_table : (n : ℕ) (table : List ℕ) → AcceptedTable n table → in_words (words_of (in_table table)) ≡ in_table table
words_table n table accepted = fun_ext (λ a. cases a (below_or_above a 65536))
  where
    cases : (a : ℕ) → (a < 65536) ⊎ (65536 ≤ a) → in_words (words_of (in_table table)) a ≡ in_table table a
    cases a (inl l) = in_words_words_of (in_table table) a l
    cases a (inr h) =
        words_beyond (in_table table) a h
        ∙ sym (table_beyond n table accepted.long accepted.clear a (le_trans (pow_mono accepted.few) h))

-- ---- the counts of words

-- a list of counts by size, as a function
counts_function : (n : ℕ) (test : ℕ → Bool) → n ≤ 16 → counts_of (tabulate 17 (path_count n test)) ≡ path_count n test
counts_function n test few = fun_ext (λ s. cases s (below_or_above s 17))
  where
    cases : (s : ℕ) → (s < 17) ⊎ (17 ≤ s) → get_or (tabulate 17 (path_count n test)) s 0 ≡ path_count n test s
    cases s (inl l) = tabulate_at 17 (path_count n test) s 0 l
    cases s (inr h) =
        get_or-eq_default (tabulate 17 (path_count n test)) 0 (le_trans (le_of_eq (tabulate_length 17 (path_count n test))) h)
        ∙ sym (path_count_beyond n test s (omega arith))

-- counts of 16 parts are counts of n where there is no set beyond these
counted : (n : ℕ) (test : ℕ → Bool) → n ≤ 16 → ((a : ℕ) → 2 ^ n ≤ a → test a ≡ false) → (counts : List ℕ) → counts ≡ tabulate 17 (path_count 16 test)
    → counts_of counts ≡ path_count n test
counted n test few beyond counts is =
    ap counts_of (is ∙ ap (tabulate 17) (fun_ext (path_count_near n test few beyond))) ∙ counts_function n test few

-- counts of 16 parts are at most as many as there are sets
pub sized_few : (test : ℕ → Bool) (counts : List ℕ) → counts ≡ tabulate 17 (path_count 16 test) → NoneOver 65536 counts
sized_few test counts is =
    subst (λ (xs : List ℕ). NoneOver 65536 xs) (sym is) (tabulate_few 17 (path_count 16 test) 65536 (path_count_few 16 test))

-- ---- an accepted table

module _ (n : ℕ) (table : List ℕ) (accepted : AcceptedTable n table) where
  beyond : (a : ℕ) → 2 ^ n ≤ a → in_table table a ≡ false
  beyond = table_beyond n table accepted.long accepted.clear

  works : in_words (words_of (in_table table)) ≡ in_table table
  works = words_table n table accepted

  module _ (counts : List ℕ) (is : counts ≡ sized_in table) where
    pub table_counts : counts_of counts ≡ path_count n (in_table table)
    table_counts = counted n (in_table table) accepted.few beyond counts (is ∙ ap (λ (f : ℕ → Bool). tabulate 17 (path_count 16 f)) works)

    pub table_few : NoneOver 65536 counts
    table_few s =
        le_trans (le_of_eq (ap (λ (f : ℕ → ℕ). f s) table_counts)) (le_trans (path_count_few n (in_table table) s) (pow_mono accepted.few))

    -- as entries, those up to n
    pub table_entries : (entries : List ℤ) → entries ≡ entries_of counts → take (n + 1) entries ≡ path_counts n (in_table table)
    table_entries entries e =
        tabulate_unique (n + 1) (λ j. pos (path_count n (in_table table) j)) (take (n + 1) entries) (pos 0)
        (length-take-le (n + 1) entries (omega (arith, accepted.few, ap length e ∙ tabulate_length 17 (λ s. pos (counts_of counts s)))))
        (λ j h.
        get_or-take (n + 1) entries j (pos 0) h ∙ ap (λ (xs : List ℤ). get_or xs j (pos 0)) e
        ∙ tabulate_at 17 (λ s. pos (counts_of counts s)) j (pos 0) (omega (arith, h, accepted.few)) ∙ ap (λ (f : ℕ → ℕ). pos (f j)) table_counts)

  module _ (rows : List ℕ) (is : rows ≡ rows_in table) where
    row_of : (part : ℕ) → part < 17 → row part rows ≡ tabulate 17 (path_count 16 (λ a. in_table table a && has_part part a))
    row_of part h =
        ap₂ (λ (k : ℕ) (xs : List ℕ). take k (drop (17 * part) xs)) (sym (add-sub_cancel_left (17 * part) 17)) (is ∙ ap rows_of works)
        ∙ row_is (in_table table) part h

    -- the row of all path sets
    pub all_row : row 16 rows ≡ sized_in table
    unfolding has_part
    all_row =
        row_of 16 (omega arith) ∙ ap (λ (f : ℕ → Bool). tabulate 17 (path_count 16 f)) (fun_ext (λ a. and-true (in_table table a)) ∙ sym works)

    module _ (i : ℕ) (l : i < n) where
      -- the row of the sets with the part
      part_row : counts_of (row i rows) ≡ with_part n (in_table table) i l
      unfolding has_part
      part_row =
          counted n (λ a. in_table table a && has a i) accepted.few (λ a h. ap (λ (b : Bool). b && has a i) (beyond a h)) (row i rows)
          (row_of i low
          ∙ ap (λ (f : ℕ → Bool). tabulate 17 (path_count 16 f))
          (fun_ext (λ a. ap (λ (b : Bool). in_table table a && (b || has a i)) (lt-leb 16 i lower))))
        where
          lower : i < 16
          lower = omega (arith, accepted.few)

          low : i < 17
          low = omega (arith, lower)

      part_sums : importance n (in_table table) (suc i) + taken_sets n (row 16 rows) (row i rows) n ≡ added_sets n (row i rows) n
      unfolding taken_sets added_sets part_weight
      part_sums =
          ap₂ (λ (f g : ℕ → ℕ). importance n (in_table table) (suc i) + sum_below (λ s. (f s - g s) * part_weight n s) n) (table_counts (row 16 rows) all_row) part_row
          ∙ importance_by_size n (in_table table) i l accepted.semicoherent
          ∙ ap (λ (g : ℕ → ℕ). sum_below (λ s. g (suc s) * part_weight n s) n) (sym part_row)

      part_is_importance : importance_by n rows i ≡ importance n (in_table table) (suc i)
      unfolding importance_by
      part_is_importance = omega (arith, part_sums)

      part_rows : Parted n (row 16 rows) (row i rows)
      part_rows =
          record {
            most = accepted.few;
            few = table_few (row 16 rows) all_row;
            fewer = λ s.
                le_trans (le_of_eq (ap (λ (f : ℕ → ℕ). f s) part_row))
                (le_trans (with_part_fewer n (in_table table) i l s) (le_of_eq (sym (ap (λ (f : ℕ → ℕ). f s) (table_counts (row 16 rows) all_row)))));
            enough = omega (arith, part_sums);
          }

    pub table_rows : Rows n rows
    unfolding rows_of
    table_rows =
        record {
          most = accepted.few;
          long = ap length is ∙ tabulate_length 289 _;
          parted = part_rows;
        }

    pub table_importances : tabulate n (importance_by n rows) ≡ importances n (in_table table)
    table_importances = tabulate_same n (importance_by n rows) (λ i. importance n (in_table table) (suc i)) part_is_importance

-- ---- the weight of a set in an importance

-- 15!
pub part_weight_few : (n s : ℕ) → n ≤ 16 → s < n → part_weight n s ≤ 1307674368000
unfolding part_weight factorial
part_weight_few n s few h = factorials_few s (n - suc s) 15 (omega arith)

pub product_few : (a b n s : ℕ) → a ≡ up_to_16 s (factorial s) → b ≡ up_to_16 (n - (s + 1)) (factorial (n - (s + 1))) → n ≤ 16 → s < n → a * b ≤ 1307674368000
unfolding factorial
product_few a b n s ea eb few h =
    rw (ea, eb, up_to_16_given s (factorial s) (omega arith), up_to_16_given (n - (s + 1)) (factorial (n - (s + 1))) (omega arith))
    (factorials_few s (n - (s + 1)) 15 (omega arith))

-- ---- the rows of the parts, as they are lent

module _ (n : ℕ) (rows : List ℕ) (i : ℕ) where
  abbrev lent : List ℕ
  lent = take (17 * i + 17 - 17 * i) (drop (17 * i) rows)

  lent_row : row i rows ≡ lent
  lent_row = ap (λ (k : ℕ). take k (drop (17 * i) rows)) (sym (add-sub_cancel_left (17 * i) 17))

  pub lent_parted : Rows n rows → i < n → Parted n (row 16 rows) lent
  lent_parted r h = subst (Parted n (row 16 rows)) lent_row (r.parted i h)

  -- what is left of what was added
  pub lent_importance : (result : ℕ) → result + taken_sets n (row 16 rows) lent n ≡ added_sets n lent n → result ≡ importance_by n rows i
  unfolding importance_by
  lent_importance result e =
      subst (λ (with : List ℕ). result ≡ added_sets n with n - taken_sets n (row 16 rows) with n) (sym lent_row) (omega arith)
