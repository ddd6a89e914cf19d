-- A part of a list that is lent and put back: its entries, and the list that a loop fills part by part. Assumes nothing.
use mathlib.Core.Path.{◌≡◌, sym, ap, ap₂, ◌∙◌}
use mathlib.Core.List.{List, ◌++◌, append_assoc}
use mathlib.Core.Logic.{◌⊎◌, inl, inr}
use Prim.Native.Nat.{ℕ, zero-le, ◌+◌, ◌-◌, ◌≤◌, ◌<◌}
use native.Mathlib.Nat.{le_trans, le_of_eq, le-add_right, add-sub_of_le, add-sub_cancel_left}
use native.Mathlib.Omega.{arith}
use lib.ListN.{length, get_or, take, drop, length-append, length-take, get_or-append, get_or-eq_default}
use lib.Seq.{take_at, drop-append-add, drop-drop, get_or-take, get_or-drop, get_or-append-add}
use borrow.Rule.Slice.PartMut.{mid_of, put_mid, Post-is, mid_len}
use Rattle.numbers.specs.Tables.{tabulate}
use Rattle.numbers.proofs.Tables.{tabulate_length, tabulate_at, tabulate_unique, filled, filled_from, filled_length}
use Rattle.numbers.proofs.Bounds.{below_or_above}

pub tabulate_append : {A : Type 0} (m n : ℕ) (f : ℕ → A) → tabulate (m + n) f ≡ tabulate m f ++ tabulate n (λ i. f (m + i))
tabulate_append {A} m n f =
    sym (tabulate_unique (m + n) f (tabulate m f ++ tabulate n (λ i. f (m + i))) (f 0)
    (length-append (tabulate m f) (tabulate n (λ i. f (m + i))) ∙ ap₂ (λ (u v : ℕ). u + v) (tabulate_length m f) (tabulate_length n (λ i. f (m + i))))
    (λ j h. entry j h (below_or_above j m)))
  where
    entry : (j : ℕ) → j < m + n → (j < m) ⊎ (m ≤ j) → get_or (tabulate m f ++ tabulate n (λ i. f (m + i))) j (f 0) ≡ f j
    entry j h (inl l) =
        get_or-append (tabulate m f) (tabulate n (λ i. f (m + i))) (f 0) j (rw (tabulate_length m f) l) ∙ tabulate_at m f j (f 0) l
    entry j h (inr l) =
        let k : ℕ = j - m in
        let split : j ≡ m + k = sym (add-sub_of_le l) in
        ap (λ (i : ℕ). get_or (tabulate m f ++ tabulate n (λ i. f (m + i))) i (f 0)) (split ∙ ap (λ (x : ℕ). x + k) (sym (tabulate_length m f)))
        ∙ get_or-append-add (tabulate m f) (tabulate n (λ i. f (m + i))) k (f 0) ∙ tabulate_at n (λ i. f (m + i)) k (f 0) (omega arith) ∙ ap f (sym split)

-- an entry of a part of a list
pub mid_at : (a k : ℕ) (xs : List ℕ) (s : ℕ) → s < k → get_or (mid_of a k xs) s 0 ≡ get_or xs (a + s) 0
mid_at a k xs s h = get_or-take k (drop a xs) s 0 h ∙ get_or-drop a xs s 0

pub mid_beyond : (a k : ℕ) (xs : List ℕ) (s : ℕ) → k ≤ s → get_or (mid_of a k xs) s 0 ≡ 0
mid_beyond a k xs s h = get_or-eq_default (mid_of a k xs) 0 (omega (arith, length-take k (drop a xs)))

-- ---- a part put back

-- the part of k entries behind the a that are filled
module _ (f : ℕ → ℕ) (old list : List ℕ) (a k : ℕ) (is : list ≡ filled f old a) (room : a + k ≤ length old) where
  pub part_length : length (mid_of a (a + k - a) list) ≡ k
  part_length =
      mid_len a (a + k) list
      (le_trans room (le_of_eq (sym (ap length is ∙ filled_length f old a (le_trans (le-add_right a k) room)))))
      ∙ add-sub_cancel_left a k

  -- what stands in the part before it is lent
  pub part_old : (s : ℕ) → s < k → get_or (mid_of a (a + k - a) list) s 0 ≡ get_or old (a + s) 0
  part_old s h =
      mid_at a (a + k - a) list s (rw (add-sub_cancel_left a k) h) ∙ ap (λ (xs : List ℕ). get_or xs (a + s) 0) is
      ∙ filled_from f old a (a + s) 0 (le-add_right a s)

  pub part_few : (most : ℕ) → ((i : ℕ) → get_or old i 0 ≤ most) → (s : ℕ) → get_or (mid_of a (a + k - a) list) s 0 ≤ most
  part_few most few s = cases (below_or_above s k)
    where
      cases : (s < k) ⊎ (k ≤ s) → get_or (mid_of a (a + k - a) list) s 0 ≤ most
      cases (inl l) = le_trans (le_of_eq (part_old s l)) (few (a + s))
      cases (inr l) = le_trans (le_of_eq (mid_beyond a (a + k - a) list s (rw (add-sub_cancel_left a k) l))) zero-le

  pub part_back : (new : List ℕ) → new ≡ tabulate k (λ s. f (a + s)) → put_mid a (a + k - a) list new ≡ filled f old (a + k)
  part_back new e =
      ap₂ (λ (front rest : List ℕ). front ++ (new ++ rest))
      (ap (take a) is ∙ take_at (tabulate a f) (drop a old) a (tabulate_length a f))
      (Post-is a (a + k) list (le-add_right a k) ∙ ap (drop (a + k)) is
      ∙ ap (λ (x : ℕ). drop (x + k) (filled f old a)) (sym (tabulate_length a f))
      ∙ drop-append-add (tabulate a f) (drop a old) k ∙ drop-drop k a old)
      ∙ ap (λ (xs : List ℕ). tabulate a f ++ (xs ++ drop (a + k) old)) e
      ∙ sym (append_assoc (tabulate a f) (tabulate k (λ s. f (a + s))) (drop (a + k) old))
      ∙ ap (λ (xs : List ℕ). xs ++ drop (a + k) old) (sym (tabulate_append a k f))
