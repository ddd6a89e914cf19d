-- How what stands before the sets of a design record is written (01, "Records on disk").
use Rattle.std.specs.Prelude.{List, ◌++◌, ℕ}
use Rattle.codec.specs.ByteForm.{bytes_of, forms_of}
use Rattle.record_parts.specs.declared.PartList.{PartList}
use Rattle.record_parts.specs.PartLists.{numbers_of}

-- n; the mark; n part numbers
unfoldable pub parts_bytes : PartList → List ℕ
parts_bytes parts = bytes_of parts.count ++ (bytes_of parts.mark ++ forms_of (numbers_of parts))

-- then the count of minimal sets
unfoldable pub head_bytes : PartList → ℕ → List ℕ
head_bytes parts count = parts_bytes parts ++ bytes_of count
