-- What can be wrong with a line at its place, and with the end of a text.
use Rattle.std.specs.Prelude.{ℕ, ◌+◌, Bool, true, false, not, ◌&&◌, ◌||◌, nat_lt, nat_le, List, [], ◌∷◌, length, Option, None, Some, if◌then◌else◌}
use Rattle.chip_tables.specs.declared.target.Target.{Target}
use Rattle.chip_tables.specs.declared.target.Target.TheVariants.{Interp}
use Rattle.ladder_tree.specs.declared.fault.ProjectFault.{ProjectFault}
use Rattle.ladder_tree.specs.declared.fault.ProjectFault.TheVariants as fault
use Rattle.texts.specs.declared.limits.TheConstants.{LINE_BYTES, FILE_BYTES}
use Rattle.ladder_tree.specs.declared.limits.TheConstants.{DEPTH, RUNGS, ELEMENTS, OPENINGS, PIN_LINES}
use Rattle.ld_line.specs.Tokens.{tokens}
use Rattle.ld_line.specs.Words.{word_of, is_built, is_target_built}
use Rattle.ld_line.specs.declared.said.Said.{Said}
use Rattle.ld_line.specs.declared.said.Said.TheVariants.{Bad, Range, Is}
use Rattle.ld_line.specs.declared.word.Word.{Word}
use Rattle.ld_line.specs.declared.header.HeaderLine.TheVariants as header
use Rattle.ld_line.specs.declared.pins.PinsLine.TheVariants as pins
use Rattle.ld_text.specs.declared.heard.Mark.TheVariants as mark
use Rattle.ld_text.specs.declared.heard.LineForm.{LineForm}
use Rattle.ld_text.specs.declared.heard.LineForm.TheVariants.{Header, Pins, Body}
use Rattle.ld_text.specs.declared.place.Site.{Site}
use Rattle.ld_text.specs.declared.place.Site.TheVariants as site
use Rattle.ld_text.specs.Lines.{Line, size_of}
use Rattle.ld_text.specs.Place.{Place, said_at, behind}

-- the line of a fault of a text; the faults without a line are none of a text
abbrev pub line_of : ProjectFault → ℕ
line_of (fault.NotProject line) = line
line_of (fault.BadLine line) = line
line_of (fault.LineTooLong line) = line
line_of (fault.TooDeep line) = line
line_of (fault.TooMany line) = line
line_of (fault.Unclosed line) = line
line_of (fault.UnknownChip line) = line
line_of (fault.NumberRange line) = line
line_of (fault.NotBuilt line) = line
line_of _ = 0

abbrev pub is_first : Site → Bool
is_first site.First = true
is_first site.Header = false
is_first site.Pins = false
is_first site.Between = false
is_first site.Inside = false

abbrev pub is_bad : Said LineForm → Bool
is_bad Bad = true
is_bad Range = false
is_bad (Is form) = false

abbrev pub is_out_of_range : Said LineForm → Bool
is_out_of_range Bad = false
is_out_of_range Range = true
is_out_of_range (Is form) = false

-- The target whose words count: in a rung that of the project. Elsewhere, where a name may be such a word, and while no chip is named, the words of
-- interpretable texts count.
abbrev pub counting : Site → Option Target → Target
counting site.Inside (Some target) = target
counting site.Inside None = Interp
counting site.First target = Interp
counting site.Header target = Interp
counting site.Pins target = Interp
counting site.Between target = Interp

abbrev pub has_unbuilt_word : Target → Option Word → Bool
has_unbuilt_word target None = false
has_unbuilt_word target (Some word) = not (is_built target word)

-- the line begins with a word of an element that is not built for the target
abbrev pub begins_unbuilt : Target → List (List ℕ) → Bool
begins_unbuilt target [] = false
begins_unbuilt target (token ∷ ts) = has_unbuilt_word target (word_of token)

-- the line names a target that is not built
abbrev pub names_unbuilt : Said LineForm → Bool
names_unbuilt (Is (Header (header.Micro (Some t)))) = not (is_target_built t)
names_unbuilt _ = false

-- a MICRO line without a known chip, or a PROGRAM without a MICRO line above it
abbrev pub is_chipless : Option Target → Said LineForm → Bool
is_chipless target (Is (Header (header.Micro None))) = true
is_chipless None (Is (Header header.Program)) = true
is_chipless _ _ = false

abbrev pub is_too_deep : Place → Said LineForm → Bool
is_too_deep p (Is (Body (mark.Open c))) = nat_le DEPTH p.depth
is_too_deep p _ = false

-- with the line there are more of its kind than there may be
abbrev pub is_one_too_many : Place → Said LineForm → Bool
is_one_too_many p (Is (Body mark.Rung)) = nat_le RUNGS p.rungs
is_one_too_many p (Is (Body (mark.Element l))) = nat_le ELEMENTS p.elements
is_one_too_many p (Is (Body (mark.Open c))) = nat_le OPENINGS p.openings
is_one_too_many p (Is (Pins (pins.Pin line))) = nat_le PIN_LINES p.pins
is_one_too_many p _ = false

-- a row of the table of faults
pub record Row : Type 0 where
  pub holds : Bool
  pub fault : ProjectFault

abbrev pub row : Bool → ProjectFault → Row
row holds fault = record { holds = holds; fault = fault }

-- the fault of the first row that holds
abbrev pub first_row : List Row → Option ProjectFault
first_row [] = None
first_row (r ∷ rs) = if r.holds then Some r.fault else first_row rs

-- The table of the faults of a line, in the order in which they are looked for. The line has the number, takes so many
-- bytes of the text, and says this.
abbrev pub fault_of : Place → ℕ → List ℕ → ℕ → Said LineForm → Option ProjectFault
fault_of p number bytes size said = first_row (
    row (nat_lt LINE_BYTES (length bytes)) (fault.LineTooLong number)
    ∷ row (is_first p.site && is_bad said) (fault.NotProject number)
    ∷ row (not (is_first p.site) && (begins_unbuilt (counting p.site p.target) (tokens bytes) || names_unbuilt said)) (fault.NotBuilt number)
    ∷ row (is_bad said) (fault.BadLine number)
    ∷ row (is_chipless p.target said) (fault.UnknownChip number)
    ∷ row (is_out_of_range said) (fault.NumberRange number)
    ∷ row (is_too_deep p said) (fault.TooDeep number)
    ∷ row (is_one_too_many p said || nat_lt FILE_BYTES (p.bytes + size)) (fault.TooMany number)
    ∷ [])

-- the fault of a line at its place
abbrev pub fault_at : Place → ℕ → Line → Option ProjectFault
fault_at p number l = fault_of p number l.bytes (size_of l) (said_at p number l)

abbrev pub or_else : Option ProjectFault → Option ProjectFault → Option ProjectFault
or_else (Some f) later = Some f
or_else None later = later

-- the fault of the first line that has one
abbrev pub first_fault : Place → ℕ → List Line → Option ProjectFault
first_fault p number [] = None
first_fault p number (l ∷ ls) = or_else (fault_at p number l) (first_fault (behind p number l) (number + 1) ls)

-- A text may end between rungs alone; the number is that of the line behind it.
abbrev pub end_fault : Site → ℕ → Option ProjectFault
end_fault site.First number = Some (fault.NotProject number)
end_fault site.Header number = Some (fault.Unclosed number)
end_fault site.Pins number = Some (fault.Unclosed number)
end_fault site.Between number = None
end_fault site.Inside number = Some (fault.Unclosed number)
