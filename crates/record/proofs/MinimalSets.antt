-- The sets of a record are minimal sets: those of the table that they give. And the minimal sets of a table keep the rules of a record.
-- Assumes nothing.
use mathlib.Core.Path.{◌≡◌}
use mathlib.Core.List.{List}
use Prim.Native.Nat.{ℕ, ◌^◌, ◌≤◌}
use Rattle.std.specs.Prelude.{Ok}
use Rattle.theory_sets.specs.Structures.{listed, minimal, minimal_sets}
use Rattle.theory_sets.specs.Tables.{in_table, table_of}
use Rattle.theory_sets.proofs.Ranges.{those_elim, those_rising}
use Rattle.theory_sets.proofs.Structures.{minimal_works, minimal_least}
use Rattle.structure.specs.Checks.{list_refusal, table_refusal}
use Rattle.structure.proofs.Acceptance.{AcceptedList, accepted_list, list_accepted, list_table, list_minimal, minimal_accepted}
use Rattle.record.specs.Records.{Design}
use Rattle.record.specs.RecordBytes.{SetRules, DesignRules}

-- the sets of a record are an accepted list
pub rules_accepted_list : (n : ℕ) (sets : List ℕ) → 1 ≤ n → n ≤ 16 → SetRules n sets → AcceptedList n sets
rules_accepted_list n sets some few r = record { some = some; few = few; any_set = r.some; most = r.most; sets = r.within }

pub design_list : (d : Design) → DesignRules d → list_refusal d.parts.count d.sets ≡ Ok tt
design_list d r =
    list_accepted d.parts.count d.sets (rules_accepted_list d.parts.count d.sets r.parts.rules.some r.parts.rules.few r.sets)

-- so they give a table that every calculation accepts
pub design_table_lem : (d : Design) → DesignRules d → table_refusal d.parts.count (table_of d.parts.count (listed d.sets)) ≡ Ok tt
design_table_lem d r = list_table d.parts.count d.sets (design_list d r)

-- and they are the minimal sets of that table
pub design_minimal : (d : Design) → DesignRules d → minimal_sets d.parts.count (in_table (table_of d.parts.count (listed d.sets))) ≡ d.sets
design_minimal d r = list_minimal d.parts.count d.sets (design_list d r) r.sets.rising r.sets.apart

-- the minimal sets of an accepted table keep the rules of a record's sets
pub minimal_rules : (n : ℕ) (table : List ℕ) → table_refusal n table ≡ Ok tt → SetRules n (minimal_sets n (in_table table))
minimal_rules n table h =
    let works = in_table table in
    let l = accepted_list n (minimal_sets n works) (minimal_accepted n table h) in
    record {
      some = l.any_set;
      most = l.most;
      within = l.sets;
      rising = those_rising (minimal n works) (2 ^ n);
      apart = λ a b m k within.
          let x = those_elim (minimal n works) (2 ^ n) a m in
          let y = those_elim (minimal n works) (2 ^ n) b k in
          minimal_least n works a b x.1 y.0 (minimal_works n works b y.1) within;
    }
