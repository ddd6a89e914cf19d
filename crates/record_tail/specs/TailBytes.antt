-- How what stands behind the sets of a record of edition 2 is written (02, §8).
use Rattle.std.specs.Prelude.{List, ◌++◌, ℕ, length}
use Rattle.codec.specs.ByteForm.{bytes_of, forms_of}

-- how many numbers are retired; these numbers; and the path counts
unfoldable pub tail_bytes : List ℕ → List ℕ → List ℕ
tail_bytes retired counts = bytes_of (length retired) ++ (forms_of retired ++ forms_of counts)
