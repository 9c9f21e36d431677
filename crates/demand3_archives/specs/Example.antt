-- A small archive of which `ArchivesAnswer` speaks: its making is accepted, three of its four lines are carried out, and this is what it prints. Computed.
use Rattle.std.specs.Prelude.{◌≡◌, refl, List, [], ◌∷◌, Ok}
use Rattle.std.proofs.Math.Option.{some}
use Rattle.std.specs.Float.{binary32}
use Rattle.std.specs.Float.Ieee.{of_bits, to_bits, of_int, div, lt}
use Rattle.readings.specs.Share.{is_share}
use Rattle.readings.specs.Number.{is_number}
use Rattle.readings.specs.Word.{factor_of}
use Rattle.text.specs.Quoted.{bytes}
use Rattle.text.specs.Pieces.{pieces}
use Rattle.text.specs.Numbers.{digit_value, digits_from, decimal_of, word_of, bits_of}
use Rattle.text.specs.Coordinates.{capped, coordinate_of}
use Rattle.sampler.specs.Heap.{moved}
use Rattle.startingchance.specs.Chance.{fill_fraction, chance_of, starts_by}
use Rattle.wholetree.specs.Reading.{is_row}
use Rattle.wholetree.specs.Whole.{whole}
use Rattle.sampledtree.specs.Sampled.{Sampled, fresh}
use Rattle.samplerplustree.specs.Making.{empty_sampled, sampled_by}
use Rattle.form.specs.Making.{sixteenths_of}
use Rattle.lines.specs.Lines.{digit, decimal_in, decimal, hex, leaf_line, refused_line}
use Rattle.namedwords.specs.Named.{is_named, is_beyond}
use Rattle.archiverow.specs.Rows.{ArchiveRow, puts, arrives, out_of_form, row_of, row_of_fields, row_by, is_arrival}
use Rattle.archivelines.specs.Answers.{kept_line}
use Rattle.archivehead.specs.Head.{archive_making_of, making_of_line}
use Rattle.archiveend.specs.End.{entry_line, end_lines}
use Rattle.regrow_line.specs.Archive.{rows_of, rows_leave, printed}

-- one channel, capacity 2, both shares whole
making : making_of_line (bytes "1 2 16 16") ≡ some (record { channels = 1; capacity = 2; cached = 16; initial = 16 })
unfolding archive_making_of pieces digit_value digits_from decimal_of
making = refl

made : sampled_by 1 2 (sixteenths_of 16) (sixteenths_of 16) ≡ Ok (empty_sampled 1 2 (sixteenths_of 16) (sixteenths_of 16))
unfolding sampled_by sixteenths_of is_share div of_int of_bits
made = refl

-- a put of the reading 8, its arrival with the weight −1, and a row out of form; the line after that one is not carried out
abbrev rows : List ArchiveRow
rows = puts 7 (of_bits binary32 0x4100_0000 ∷ []) ∷ arrives 7 (of_bits binary32 0xbf80_0000) 0x8000_0000_0000_0000 (1 ∷ 2 ∷ []) ∷ out_of_form ∷ []

carried_out : rows_of (bytes "0 7 8" ∷ bytes "3 7 BF800000 8000000000000000 0000000000000001 0000000000000002" ∷ bytes "2 7" ∷ bytes "0 7 8" ∷ []) ≡ rows
unfolding rows_of row_of row_of_fields row_by is_arrival is_beyond is_named pieces digit_value digits_from decimal_of word_of bits_of capped coordinate_of of_int of_bits
carried_out = refl

abbrev start : Sampled (whole 1)
start = fresh (whole 1) 2 (sixteenths_of 16)

answers : printed 1 (sixteenths_of 16) start 1 rows ≡ bytes "leaf 7 2\nrefused 17 3\n"
unfolding sixteenths_of of_bits of_int div lt is_number factor_of is_row fill_fraction chance_of starts_by digit decimal_in decimal refused_line kept_line
answers = refl

end : end_lines 1 (rows_leave 1 start rows) ≡ bytes "weight index\nBF800000 7\nid dimension cut left right mass\n9 - - - - 1\n"
unfolding sixteenths_of of_bits to_bits of_int div lt is_number factor_of is_row fill_fraction chance_of starts_by moved digit decimal_in decimal hex leaf_line entry_line
end = refl
