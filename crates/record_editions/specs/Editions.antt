-- What record of either edition stands at bytes from a position on (01, "Records on disk"; 02, §8), or which refusal at which place.
use Rattle.std.specs.Prelude.{Bool, true, false, ◌&&◌, List, [], ℕ, ◌+◌, eqb, get_or}
use Rattle.numbers.specs.Tables.{tabulate}
use Rattle.theory_sets.specs.Structures.{listed}
use Rattle.theory_orders.specs.Formulas.{path_count}
use Rattle.codec.specs.Reads.{Read, found, then, alone}
use Rattle.record_parts.specs.PartLists.{numbers_of}
use Rattle.record.specs.Records.{Design, DesignAt, record_at}
use Rattle.record_tail.specs.Tails.{tail_at}
use Rattle.record_editions.specs.declared.Edition.{Edition}
use Rattle.record_editions.specs.declared.Edition.TheVariants.{First, Second}

-- a record as it is stored: a design in edition 1, or in edition 2 with the retired numbers
pub data Stored : Type 0 where
  first : Design → Stored
  second : Design → List ℕ → Stored

-- its design, its retired numbers, of which edition 1 has none, and its edition
abbrev pub design_of : Stored → Design
design_of (first d) = d
design_of (second d retired) = d

abbrev pub retired_in : Stored → List ℕ
retired_in (first d) = []
retired_in (second d retired) = retired

abbrev pub edition_of : Stored → Edition
edition_of (first d) = First
edition_of (second d retired) = Second

-- a record where it stands: the bytes of its sets, from the first set's first byte to behind the last set's last
pub record StoredAt : Type 0 where
  pub stored : Stored
  pub begin : ℕ
  pub end : ℕ

-- the path counts of a design, φ(0) to φ(n), counted afresh
unfoldable pub fresh_counts : Design → List ℕ
fresh_counts d = tabulate (d.parts.count + 1) (path_count d.parts.count (listed d.sets))

-- ---- at a position

-- "An edition 2 record starts with the numbers 0 and 2": each is one byte. Where nothing stands, 1 stands in for it.
unfoldable pub second_there : List ℕ → ℕ → Bool
second_there bytes start = eqb (get_or bytes start 1) 0 && eqb (get_or bytes (start + 1) 1) 2

-- the fields of edition 1
abbrev pub first_at : DesignAt → ℕ → Read StoredAt
first_at here next = found (record { stored = first here.design; begin = here.begin; end = here.end }) next

-- behind them, in edition 2, the retired numbers and the path counts
abbrev pub second_at : List ℕ → DesignAt → ℕ → Read StoredAt
second_at bytes here next =
    then (tail_at bytes here.design.parts.mark (numbers_of here.design.parts) (fresh_counts here.design) next) (λ retired end.
    found (record { stored = second here.design retired; begin = here.begin; end = here.end }) end)

-- The record at that position, with the position after it. A byte 00 without 02 behind it is n = 0, which 1 refuses at its place.
abbrev pub edition_at : Bool → List ℕ → ℕ → Read StoredAt
edition_at true bytes start = then (record_at bytes (start + 2)) (second_at bytes)
edition_at false bytes start = then (record_at bytes start) first_at

unfoldable pub stored_at : List ℕ → ℕ → Read StoredAt
stored_at bytes start = edition_at (second_there bytes start) bytes start

-- ---- all bytes

-- the record that the bytes are, where it stands
unfoldable pub only_stored : List ℕ → Read StoredAt
only_stored bytes = then (stored_at bytes 0) (alone bytes)

-- the record that the bytes are
unfoldable pub whole_stored : List ℕ → Read Stored
whole_stored bytes = then (only_stored bytes) (λ here next. found here.stored next)

-- the design in a record, of either edition, where it stands
abbrev pub body_at : StoredAt → DesignAt
body_at here = record { design = design_of here.stored; begin = here.begin; end = here.end }

abbrev pub body_of : Read StoredAt → Read DesignAt
body_of read = then read (λ here next. found (body_at here) next)

unfoldable pub only_record : List ℕ → Read DesignAt
only_record bytes = body_of (only_stored bytes)

-- and the design alone
unfoldable pub whole_record : List ℕ → Read Design
whole_record bytes = then (only_record bytes) (λ here next. found here.design next)

-- ---- as it was

-- the record that the bytes were before there was a second edition
unfoldable pub former_only : List ℕ → Read DesignAt
former_only bytes = then (record_at bytes 0) (alone bytes)
