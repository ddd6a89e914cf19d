-- A sheet written number by number: each entry stands behind those before it. Assumes nothing.
use mathlib.Core.Path.{◌≡◌, refl, sym, ap, ◌∙◌}
use mathlib.Core.List.{List, [], ◌∷◌, ◌++◌, append_assoc, append-nil}
use Prim.Native.Nat.{ℕ, suc, ◌≤◌, ◌<◌}
use native.Mathlib.Omega.{arith}
use lib.IntN.{ℤ, pos}
use lib.ListN.{length, take, drop, length-append, take-append-drop}
use lib.Seq.{take-suc}
use Rattle.codec.specs.ByteForm.{bytes_of, forms_of}
use Rattle.vector_kind.specs.Kinds.{kind_number}
use Rattle.vector_conversion.specs.Vectors.{entry_at}
use Rattle.vector_kind.specs.declared.Kind.{Kind}
use Rattle.sheet.specs.Sheets.{coded, entry_bytes, sheet_bytes}

module _ (kind : Kind) where
  entries_append : (front behind : List ℤ) → entry_bytes kind (front ++ behind) ≡ entry_bytes kind front ++ entry_bytes kind behind
  unfolding entry_bytes forms_of
  entries_append [] behind = refl
  entries_append (x ∷ xs) behind =
      ap (λ (l : List ℕ). bytes_of (coded kind x) ++ l) (entries_append xs behind)
      ∙ sym (append_assoc (bytes_of (coded kind x)) (entry_bytes kind xs) (entry_bytes kind behind))

  entry_form : (entry : ℤ) → entry_bytes kind (entry ∷ []) ≡ bytes_of (coded kind entry)
  unfolding entry_bytes forms_of
  entry_form entry = append-nil (bytes_of (coded kind entry))

  module _ (n : ℕ) where
    pub sheet_append : (front behind : List ℤ) → sheet_bytes kind n (front ++ behind) ≡ sheet_bytes kind n front ++ entry_bytes kind behind
    unfolding sheet_bytes
    sheet_append front behind = rw (entries_append front behind) (simp append_assoc)

    -- kind and n stand in front
    pub sheet_front : sheet_bytes kind n [] ≡ bytes_of (kind_number kind) ++ bytes_of n
    unfolding sheet_bytes entry_bytes forms_of
    sheet_front = ap (λ (l : List ℕ). bytes_of (kind_number kind) ++ l) (append-nil (bytes_of n))

    -- one entry more
    pub sheet_next : (i : ℕ) (entries : List ℤ) → i < length entries
        → sheet_bytes kind n (take (suc i) entries) ≡ sheet_bytes kind n (take i entries) ++ bytes_of (coded kind (entry_at entries i))
    sheet_next i entries h =
        ap (sheet_bytes kind n) (take-suc entries i (pos 0) h) ∙ sheet_append (take i entries) (entry_at entries i ∷ [])
        ∙ ap (λ (l : List ℕ). sheet_bytes kind n (take i entries) ++ l) (entry_form (entry_at entries i))

    -- the first entries take no more than all
    pub sheet_part : (i : ℕ) (entries : List ℤ) → length (sheet_bytes kind n (take i entries)) ≤ length (sheet_bytes kind n entries)
    sheet_part i entries =
        let whole : sheet_bytes kind n entries ≡ sheet_bytes kind n (take i entries) ++ entry_bytes kind (drop i entries) =
        ap (sheet_bytes kind n) (sym (take-append-drop i entries)) ∙ sheet_append (take i entries) (drop i entries) in
        omega (arith, simp length-append at (ap length whole))
