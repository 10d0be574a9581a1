-- Document 01, "Frames", with document 02's CR 1 and CR 5: the table of kinds, which is in hexadecimal (10 is 16, 11 is 17, 12 is 18 and 1F is 31), and when "a
-- value does not fit its field". Assumes nothing.
use Rattle.std.specs.Prelude.{Bool, cond, ◌&&◌, List, [], ◌++◌, ℕ, ◌+◌, eqb, ltb}
use Rattle.rules.specs.declared.Settings.{Settings}
use Rattle.lines.specs.Writing.{line_of}
use Rattle.kinds.specs.declared.Entry.{Entry}
use Rattle.kinds.specs.declared.Done.{Done}
use Rattle.kinds.specs.declared.Refused.{Refused}
use Rattle.payloads.specs.Numbers.{number_bytes}
use Rattle.payloads.specs.Pieces.{code_bytes}

-- "01 job | k (1 byte), b, a, m (2 each)"
unfoldable pub job_numbers : Settings → List ℕ
unfolding number_bytes
job_numbers c = number_bytes 1 c.k ++ number_bytes 2 c.b ++ number_bytes 2 c.a ++ number_bytes 2 c.m

-- CR 1: "a job of 8 payload bytes ends with the strand". One of 7 means strand 0, so that a forward job is written as it always was
unfoldable pub job_payload : Settings → List ℕ
unfolding job_numbers number_bytes
job_payload c = job_numbers c ++ cond (eqb c.strand 0) [] (number_bytes 1 c.strand)

-- CR 5: "Frames carry capitals only, so a job frame means setting 0": a job under another mask setting has none
unfoldable pub job_fits : Settings → Bool
job_fits c = ltb c.k 256 && ltb c.b 65536 && ltb c.a 65536 && ltb c.m 65536 && ltb c.strand 256 && ltb c.mask 1

unfoldable pub job_line : Settings → List ℕ
unfolding line_of job_payload
job_line c = line_of 1 (job_payload c)

-- "02, 03 piece of the first, second sequence"
unfoldable pub piece_line : ℕ → List ℕ → List ℕ
unfolding line_of code_bytes
piece_line sequence codes = line_of (1 + sequence) (code_bytes codes)

-- "04 end | none"
unfoldable pub end_line : List ℕ
unfolding line_of
end_line = line_of 4 []

-- "10 entry | the five numbers, 2 bytes each", of either strand: the kind tells which
unfoldable pub entry_payload : Entry → List ℕ
unfolding number_bytes
entry_payload x =
    number_bytes 2 x.first.start ++ number_bytes 2 x.first.end ++ number_bytes 2 x.second.start ++ number_bytes 2 x.second.end
    ++ number_bytes 2 x.weight

unfoldable pub entry_fits : Entry → Bool
entry_fits x =
    ltb x.first.start 65536 && ltb x.first.end 65536 && ltb x.second.start 65536 && ltb x.second.end 65536
    && ltb x.weight 65536

-- CR 1: "kind 10 stays forward"
unfoldable pub entry_line : Entry → List ℕ
unfolding line_of entry_payload
entry_line x = line_of 16 (entry_payload x)

-- CR 1: "Frame kind 12 .. carries a reverse entry's five numbers"
unfoldable pub reverse_line : Entry → List ℕ
unfolding line_of entry_payload
reverse_line x = line_of 18 (entry_payload x)

-- "11 done | listed, M, W (4 each), link total (8)"
unfoldable pub done_payload : Done → List ℕ
unfolding number_bytes
done_payload x = number_bytes 4 x.listed ++ number_bytes 4 x.matches ++ number_bytes 4 x.widest ++ number_bytes 8 x.links

-- every link total fits: it is held in 8 bytes
unfoldable pub done_fits : Done → Bool
done_fits x = ltb x.listed 4294967296 && ltb x.matches 4294967296 && ltb x.widest 4294967296

unfoldable pub done_line : Done → List ℕ
unfolding line_of done_payload
done_line x = line_of 17 (done_payload x)

-- "1F refused | number, sequence (1 each), detail (4)"
unfoldable pub refused_payload : Refused → List ℕ
unfolding number_bytes
refused_payload x = number_bytes 1 x.number ++ number_bytes 1 x.sequence ++ number_bytes 4 x.detail

unfoldable pub refused_fits : Refused → Bool
refused_fits x = ltb x.number 256 && ltb x.sequence 256 && ltb x.detail 4294967296

unfoldable pub refused_line : Refused → List ℕ
unfolding line_of refused_payload
refused_line x = line_of 31 (refused_payload x)
