-- The lines of a report (01, "The report program"), byte for byte.
use Rattle.std.specs.Prelude.{List, ◌++◌, ℕ}
use Prim.Native.String.{String}
use Rattle.text.specs.Texts.{ascii, decimal}

-- the first line: n, the count of minimal sets and the mark
unfoldable pub head_line : ℕ → ℕ → ℕ → List ℕ
head_line parts sets mark =
    ascii "parts " ++ (decimal parts ++ (ascii " sets " ++ (decimal sets ++ (ascii " mark " ++ (decimal mark ++ ascii "\n")))))

-- what ends the line of a word: a number and a figure, each with a space before it
unfoldable pub rest_of_line : ℕ → List ℕ → List ℕ
rest_of_line number figure = ascii " " ++ (decimal number ++ (ascii " " ++ (figure ++ ascii "\n")))

-- a word, a number and a figure
abbrev pub figure_line : String → ℕ → List ℕ → List ℕ
figure_line word number figure = ascii word ++ rest_of_line number figure

-- the one line of a refusal, by its number and place
unfoldable pub refused_line : ℕ → ℕ → List ℕ
refused_line number place = ascii "refused " ++ (decimal number ++ (ascii " " ++ (decimal place ++ ascii "\n")))
