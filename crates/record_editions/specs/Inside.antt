-- What the private functions answer on the way: a reader of the promises may pass this file over.
use Rattle.std.specs.Prelude.{List, [], ℕ, ◌+◌, take, Ok}
use Rattle.numbers.specs.Tables.{tabulate}
use Rattle.codec.specs.Reads.{Read, found, refused}
use Rattle.theory_orders.specs.Formulas.{path_count}
use Rattle.structure_words.specs.Words.{in_words}
use Rattle.record_parts.specs.PartLists.{numbers_of}
use Rattle.record_retired.specs.Retired.{retired_of}
use Rattle.record_tail.specs.Tails.{tail_at}
use Rattle.record.specs.declared.WithWords.{WithWords}
use Rattle.record.specs.Contents.{with_words_of}
use Rattle.record_editions.specs.declared.Edition.TheVariants.{First, Second}
use Rattle.record_editions.specs.declared.StoredRead.{StoredRead}

-- what was read, as a record of edition 1
abbrev pub first_read : WithWords → StoredRead
first_read body = record { body = body; edition = First; retired = retired_of [] }

-- the path counts that words of a structure give
abbrev pub word_counts : WithWords → List ℕ
word_counts body = take (body.contents.list.count + 1) (tabulate 17 (path_count 16 (in_words body.words)))

-- what stands behind it in edition 2
abbrev pub behind_at : List ℕ → WithWords → Read (List ℕ)
behind_at bytes body =
    tail_at bytes body.contents.list.mark (numbers_of body.contents.list) (word_counts body) body.contents.next

-- and the record of edition 2 that both make
abbrev pub second_read : WithWords → Read (List ℕ) → StoredRead
second_read body (found retired next) = record {
  body = record {
    contents = record {
      list = body.contents.list;
      sets = body.contents.sets;
      begin = body.contents.begin;
      end = body.contents.end;
      next = next;
      verdict = (Ok tt);
    };
    words = body.words;
  };
  edition = Second;
  retired = retired_of retired;
}
second_read body (refused refusal) = first_read (with_words_of (refused refusal))
