-- `record_changes::write_stored` meets its contract: a well-formed list is the list of its mark and its numbers, and in edition 2 the path counts are counted afresh.
-- Assumes nothing.
use mathlib.Core.Path.{◌≡◌, sym, ap, ◌∙◌}
use mathlib.Core.List.{List}
use Prim.Native.Nat.{ℕ, ◌+◌}
use native.Mathlib.Omega.{arith}
use lib.ListN.{length, take}
use lib.Seq.{length-take-le}
use Rattle.numbers.specs.Tables.{tabulate}
use Rattle.numbers.proofs.Tables.{tabulate_length}
use Rattle.theory_sets.specs.Structures.{listed}
use Rattle.theory_orders.specs.Formulas.{path_count}
use Rattle.record_parts.proofs.WellFormed.{well_formed_counted, cells_enough}
use Rattle.record_changes.specs.Inside.{retired_numbers}
use Rattle.record_changes.proofs.Writing.{first_is, second_is}
use Rattle.record_changes.proofs.write_stored.Goals as goal

-- n + 1 path counts stand in front of the cells
counted : (n : ℕ) (sets counts : List ℕ) → take (n + 1) counts ≡ tabulate (n + 1) (path_count n (listed sets)) → length (take (n + 1) counts) ≡ n + 1
counted n sets counts e = ap length e ∙ tabulate_length (n + 1) (path_count n (listed sets))

pub slice_bounds-numbers-end : goal.slice_bounds-numbers-end
slice_bounds-numbers-end c =
    cells_enough c.args.list c.requires.design_rules.parts

pub slice_bounds-write_record-end : goal.slice_bounds-write_record-end
slice_bounds-write_record-end c =
    sym (well_formed_counted c.args.list c.requires.design_rules.parts)

pub write_record-requires : goal.write_record-requires
write_record-requires c =
    record {
      numbers_len_bound = omega (arith, well_formed_counted c.args.list c.requires.design_rules.parts, c.requires.design_rules.parts.rules.few);
      sets_len_bound = c.requires.design_rules.sets.most;
    }

pub fresh_counts-counts-requires : goal.fresh_counts-counts-requires
fresh_counts-counts-requires c =
    record { set_rules = c.requires.design_rules.sets; n_le_most_parts = c.requires.design_rules.parts.rules.few }

pub slice_bounds-numbers-end-in-Second : goal.slice_bounds-numbers-end-in-Second
slice_bounds-numbers-end-in-Second c =
    cells_enough c.args.list c.requires.design_rules.parts

pub slice_bounds-write_second-end : goal.slice_bounds-write_second-end
slice_bounds-write_second-end c =
    sym (well_formed_counted c.args.list c.requires.design_rules.parts)

pub slice_bounds-filed-end : goal.slice_bounds-filed-end
slice_bounds-filed-end c =
    c.requires.count_in_bounds

pub slice_bounds-write_second-end-in-Second : goal.slice_bounds-write_second-end-in-Second
slice_bounds-write_second-end-in-Second c =
    sym (length-take-le c.args.retired.count c.args.retired.numbers c.requires.count_in_bounds)

pub slice_bounds-write_second-end-in-Second-2 : goal.slice_bounds-write_second-end-in-Second-2
slice_bounds-write_second-end-in-Second-2 c =
    sym (counted c.args.list.count c.args.sets.now c.fresh_counts-counts.result c.fresh_counts-counts.ensures)

pub write_second-requires : goal.write_second-requires
write_second-requires c =
    let few = c.requires.design_rules.parts.rules.few in
    record {
      numbers_len_bound = omega (arith, well_formed_counted c.args.list c.requires.design_rules.parts, few);
      sets_len_bound = c.requires.design_rules.sets.most;
      retired_len_bound = omega (arith, length-take-le c.args.retired.count c.args.retired.numbers c.requires.count_in_bounds, c.requires.count_le_most_retired);
      counts_len_bound = omega (arith, counted c.args.list.count c.args.sets.now c.fresh_counts-counts.result c.fresh_counts-counts.ensures, few);
    }

pub returns-in-First : goal.returns-in-First
returns-in-First c =
    let a = c.args in
    c.write_record.ensures
    ∙ first_is a.list a.sets.now (retired_numbers a.retired) a.buffer.now c.requires.design_rules a.edition c.in-First.is

pub returns-in-Second : goal.returns-in-Second
returns-in-Second c =
    let a = c.args in
    c.write_second.ensures
    ∙ second_is a.list a.sets.now (retired_numbers a.retired) a.buffer.now c.requires.design_rules _ c.fresh_counts-counts.ensures a.edition c.in-Second.is
