-- The sets of a record in front of a local array: a walk along them stores each behind those before it, and what it meets in a whole record are
-- the sets of the design that was read.
-- Assumes nothing.
use mathlib.Core.Path.{◌≡◌, refl, sym, ap, ap₂, ◌∙◌, subst}
use mathlib.Core.List.Memᴰ
use mathlib.Core.List.{List, [], ◌∷◌, ◌++◌, append_assoc, append-nil, Memᴰ}
use Prim.Native.Nat.{ℕ, suc, ◌+◌, ◌-◌, ◌≤◌, ◌<◌}
use native.Mathlib.Nat.{sub-zero, lt_of_lt_of_le}
use native.Mathlib.Omega.{arith}
use lib.ListN.{set, replicate, length-replicate}
use lib.Pow.{pow_mono}
use Rattle.answer.proofs.Outcomes.{InFront, in_front_none, in_front_one}
use Rattle.codec.specs.Bytes.{Bytes}
use Rattle.theory_orders.specs.Antichains.{most_sets}
use Rattle.record.specs.declared.Contents.{Contents}
use Rattle.record.specs.declared.Cursor.{Cursor}
use Rattle.record.specs.declared.Step.{Step}
use Rattle.std.specs.Prelude.{Option, Some, None}
use Rattle.codec.specs.Reads.{Read, found, refused}
use Rattle.record.specs.Records.{Design}
use Rattle.record_editions.specs.Editions.{Stored, design_of, retired_in, edition_of, whole_stored}
use Rattle.record.specs.Contents.{nothing, cursor, step_at, met_in}
use Rattle.record_editions.specs.Contents.{whole_contents, whole_stored_read, edition_or, retired_or}
use Rattle.record_retired.specs.declared.Retired.{Retired}
use Rattle.record_retired.specs.Retired.{retired_of}
use Rattle.record_editions.specs.declared.Edition.{Edition}
use Rattle.record_editions.specs.declared.Edition.TheVariants.{First}
use Rattle.record_editions.specs.declared.StoredRead.{StoredRead}
use Rattle.record_editions.proofs.RoundTrip.{stored_design, refused_design}
use Rattle.record_editions.proofs.Answers.{words_whole, contents_whole}
use Rattle.record_editions.proofs.Whole.{refused_contents, design_read_lem, walk_meets, Told, stored_told}
use Rattle.record_opening.specs.declared.Opened.{Opened}
use Rattle.record_opening.specs.Opening.{set_cells, opened_of}

-- ---- a walk along the sets

abbrev pub room : List ℕ
room = replicate 12870 0

-- where a walk is that began at a cursor: the sets met stand in front of the array, and those that it meets from here on are the rest
pub record SetWalk (bytes : List ℕ) (count : ℕ) (first : Cursor) (sets : List ℕ) (here : Cursor) (read : ℕ) : Type 0 where
  pub within : read ≤ count
  pub done : List ℕ
  pub front : InFront room done sets read
  pub rest : done ++ met_in (count - read) bytes (step_at bytes here) ≡ met_in count bytes (step_at bytes first)

pub set_walk_none : (bytes : List ℕ) (count : ℕ) (first : Cursor) → SetWalk bytes count first room first 0
set_walk_none bytes count first =
    record {
      within = omega arith;
      done = [];
      front = in_front_none room;
      rest = ap (λ (k : ℕ). met_in k bytes (step_at bytes first)) (sub-zero count);
    }

module _ {bytes : List ℕ} {count : ℕ} {first : Cursor} {sets : List ℕ} {here : Cursor} {read : ℕ} (w : SetWalk bytes count first sets here read) where
  -- all sets that the walk meets stand in front of the array
  whole : met_in (count - read) bytes (step_at bytes here) ≡ [] → sets ≡ set_cells (met_in count bytes (step_at bytes first))
  whole none =
      let all : w.done ≡ met_in count bytes (step_at bytes first) =
      sym (append-nil w.done) ∙ ap (λ (l : List ℕ). w.done ++ l) (sym none) ∙ w.rest in
      w.front.stands ∙ ap set_cells all

  pub set_walk_end : count ≤ read → sets ≡ set_cells (met_in count bytes (step_at bytes first))
  set_walk_end h = let none : count - read ≡ 0 = omega arith in whole (ap (λ (k : ℕ). met_in k bytes (step_at bytes here)) none)

  module _ (h : read < count) where
    more : count - read ≡ suc (count - (read + 1))
    more = omega arith

    pub set_walk_ended : step_at bytes here ≡ None → sets ≡ set_cells (met_in count bytes (step_at bytes first))
    set_walk_ended e = whole (ap₂ (λ (k : ℕ) (s : Option Step). met_in k bytes s) more e)

    module _ (taken : Step) (e : step_at bytes here ≡ Some taken) where
      abbrev value : ℕ
      value = taken.set

      abbrev after : Cursor
      after = taken.cursor

      abbrev left : List ℕ
      left = met_in (count - (read + 1)) bytes (step_at bytes after)

      one : met_in (count - read) bytes (step_at bytes here) ≡ value ∷ left
      one = ap₂ (λ (k : ℕ) (s : Option Step). met_in k bytes s) more e

      -- a set that the walk comes to is one of those that it meets
      pub set_walk_member : Memᴰ value (met_in count bytes (step_at bytes first))
      set_walk_member =
          subst (Memᴰ value) (ap (λ (l : List ℕ). w.done ++ l) (sym one) ∙ w.rest) (Memᴰ.append_right w.done (Memᴰ.head refl))

      pub set_walk_more : count ≤ most_sets → SetWalk bytes count first (set sets read value) after (read + 1)
      set_walk_more most =
          record {
            within = omega arith;
            done = w.done ++ (value ∷ []);
            front = in_front_one room w.done sets read value w.front (omega (arith, w.front.ends, length-replicate {A = ℕ} 12870 0));
            rest = append_assoc w.done (value ∷ []) left ∙ ap (λ (l : List ℕ). w.done ++ l) (sym one) ∙ w.rest;
          }

-- ---- the sets of a record

-- what is loaded from all that a record says
pub record Loaded (bytes : List ℕ) (w : StoredRead) (met : List ℕ) : Type 0 where
  pub most : w.body.contents.sets ≤ most_sets
  pub small : (a : ℕ) → Memᴰ a met → a < 65536
  pub opened : record {
    list = w.body.contents.list;
    count = w.body.contents.sets;
    sets = set_cells met;
    edition = w.edition;
    retired = w.retired;
    verdict = w.body.contents.verdict;
  } ≡ opened_of (whole_stored bytes)

-- the sets that a walk from the first one meets
abbrev pub met_of : List ℕ → Contents → List ℕ
met_of bytes contents = met_in contents.sets bytes (step_at bytes (cursor contents.begin contents.sets))

-- what is opened, from the contents, the sets, the edition and the retired numbers
opened_from : (k c : Contents) (met sets : List ℕ) (e f : Edition) (r q : Retired) → k ≡ c → met ≡ sets → e ≡ f → r ≡ q
    → ◌≡◌ {A = Opened} (record { list = k.list; count = k.sets; sets = set_cells met; edition = e; retired = r; verdict = k.verdict })
    (record { list = c.list; count = c.sets; sets = set_cells sets; edition = f; retired = q; verdict = c.verdict })
opened_from k c met sets e f r q a b g h = cc (a, b, g, h)

pub stored_loaded : (bytes : List ℕ) (w : StoredRead) → Bytes bytes → w ≡ whole_stored_read bytes → Loaded bytes w (met_of bytes w.body.contents)
stored_loaded bytes w bounded same = cases (whole_stored bytes) refl
  where
    told : Told bytes w
    told = stored_told bytes w same

    contents : w.body.contents ≡ whole_contents bytes
    contents = contents_whole bytes w.body (words_whole bytes w same)

    edition : (r : Read Stored) → whole_stored bytes ≡ r → w.edition ≡ edition_or r
    edition r e = told.edition ∙ ap edition_or e

    retired : (r : Read Stored) → whole_stored bytes ≡ r → w.retired ≡ retired_of (retired_or r)
    retired r e = told.retired ∙ ap (λ (x : Read Stored). retired_of (retired_or x)) e

    met : (c : Contents) → w.body.contents ≡ c → met_of bytes w.body.contents ≡ met_of bytes c
    met c e = ap (met_of bytes) e

    cases : (r : Read Stored) → whole_stored bytes ≡ r → Loaded bytes w (met_of bytes w.body.contents)
    cases (refused why) e =
        let none : w.body.contents ≡ nothing why = contents ∙ refused_contents bytes why (refused_design bytes why e) in
        let no_sets : met_of bytes w.body.contents ≡ [] = met (nothing why) none in
        record {
          most = subst (λ (k : Contents). k.sets ≤ most_sets) (sym none) (omega arith);
          small = λ a m. absurd (Memᴰ.not-nil (subst (Memᴰ a) no_sets m));
          opened = opened_from w.body.contents (nothing why) (met_of bytes w.body.contents) [] w.edition First w.retired (retired_of []) none no_sets (edition (refused why) e) (retired (refused why) e) ∙ ap opened_of (sym e);
        }
    cases (found s end) e =
        let d : Design = design_of s in
        let read = stored_design bytes s end e in
        let r = design_read_lem bytes bounded d end read in
        let mine = contents ∙ r.contents in
        let sets : met_of bytes w.body.contents ≡ d.sets =
        ap (met_of bytes) contents
        ∙ ap (λ (n : ℕ). met_in n bytes (step_at bytes (cursor (whole_contents bytes).begin (whole_contents bytes).sets))) (ap (λ (c : Contents). c.sets) r.contents)
        ∙ walk_meets bytes bounded d end read in
        record {
          most = subst (λ (k : Contents). k.sets ≤ most_sets) (sym mine) r.rules.sets.most;
          small = λ a m. lt_of_lt_of_le (r.rules.sets.within a (subst (Memᴰ a) sets m)).0 (pow_mono r.rules.parts.rules.few);
          opened = opened_from w.body.contents _ (met_of bytes w.body.contents) d.sets w.edition (edition_of s) w.retired (retired_of (retired_in s)) mine sets (edition (found s end) e) (retired (found s end) e) ∙ ap opened_of (sym e);
        }
