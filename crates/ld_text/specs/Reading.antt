-- Reading a text byte by byte: where a reader stands, and where a byte takes it.
use Rattle.std.specs.Prelude.{◌≡◌, ⊤, ℕ, ◌+◌, ◌<◌, ◌≤◌, ◌^◌, ◌-◌, ◌==◌, ◌&&◌, ◌||◌, not, Bool, true, false, min, nat_lt, List, [], ◌∷◌, ◌++◌, length, Option, None, Some, if◌then◌else◌}
use Rattle.chip_tables.specs.declared.target.Target.{Target}
use Rattle.ladder_tree.specs.declared.fault.ProjectFault.{ProjectFault}
use Rattle.ladder_tree.specs.declared.fault.ProjectFault.TheVariants.{BadLine, NumberRange, Unclosed, NotProject, NotBuilt, LineTooLong, UnknownChip, TooDeep, TooMany}
use Rattle.ladder_tree.specs.declared.project.Project.{Project}
use Rattle.texts.specs.declared.limits.TheConstants.{LINE_BYTES, FILE_BYTES}
use Rattle.ladder_tree.specs.declared.limits.TheConstants.{DEPTH, RUNGS, ELEMENTS, OPENINGS, PIN_LINES}
use Rattle.ld_line.specs.Tokens.{tokens}
use Rattle.ld_line.specs.declared.said.Said.{Said}
use Rattle.ld_line.specs.declared.said.Said.TheVariants.{Bad, Range, Is}
use Rattle.ld_line.specs.declared.header.HeaderLine.TheVariants as header
use Rattle.ld_line.specs.declared.pins.PinsLine.TheVariants as pins
use Rattle.ld_text.specs.declared.fault.TextError.{TextError}
use Rattle.ld_text.specs.declared.fault.TextError.TheVariants as error
use Rattle.ld_text.specs.declared.heard.Mark.TheVariants as mark
use Rattle.ld_text.specs.declared.heard.LineForm.{LineForm}
use Rattle.ld_text.specs.declared.heard.LineForm.TheVariants.{Blank, Magic, Header, Pins, Body}
use Rattle.ld_text.specs.declared.place.Place as held
use Rattle.ld_text.specs.declared.place.Place.TheVariants as part
use Rattle.ld_text.specs.declared.place.Site.{Site}
use Rattle.ld_text.specs.declared.place.Site.TheVariants as site
use Rattle.ld_text.specs.declared.reader.Reader.{Reader}
use Rattle.ld_text.specs.Place.{Place, start, said_in, behind_form, behind_said}
use Rattle.ld_text.specs.Faults.{is_first, is_bad, counting, begins_unbuilt, names_unbuilt, is_chipless, is_too_deep, is_one_too_many, row, first_row, fault_of, end_fault}
use Rattle.ld_text.specs.Spelling.{Settings, defaults}
use Rattle.ld_text.specs.Text.{project_of}
use Rattle.ld_text.specs.Tree.{Tree, Closed, Building, with_form, is_open, depth_of, tree_at}

abbrev pub settings_behind : Settings → LineForm → Settings
settings_behind s Blank = s
settings_behind s Magic = s
settings_behind s (Header (header.Micro t)) = record s { target = t }
settings_behind s (Header (header.Cycle n)) = record s { cycle = n }
settings_behind s (Header (header.Crystal n)) = record s { crystal = n }
settings_behind s (Header (header.Baud n)) = record s { baud = n }
settings_behind s (Header header.Compiled) = s
settings_behind s (Header header.Pins) = s
settings_behind s (Header header.Program) = s
settings_behind s (Pins (pins.Pin l)) = record s { pins = s.pins ++ l ∷ [] }
settings_behind s (Pins pins.End) = s
settings_behind s (Body m) = s

-- the rows of the table of faults in front of what a line says
abbrev pub word_fault : Place → ℕ → List ℕ → Said LineForm → Option ProjectFault
word_fault p number bytes said = first_row (
    row (is_first p.site && is_bad said) (NotProject number)
    ∷ row (not (is_first p.site) && (begins_unbuilt (counting p.site p.target) (tokens bytes) || names_unbuilt said)) (NotBuilt number)
    ∷ [])

-- those of a line that says something
abbrev pub form_fault : Place → ℕ → ℕ → LineForm → Option ProjectFault
form_fault p number size form = first_row (
    row (is_chipless p.target (Is form)) (UnknownChip number)
    ∷ row (is_too_deep p (Is form)) (TooDeep number)
    ∷ row (is_one_too_many p (Is form) || nat_lt FILE_BYTES (p.bytes + size)) (TooMany number)
    ∷ [])

-- and those of what it says
abbrev pub said_fault : Place → ℕ → ℕ → Said LineForm → Option ProjectFault
said_fault p number size Bad = Some (BadLine number)
said_fault p number size Range = Some (NumberRange number)
said_fault p number size (Is form) = form_fault p number size form

-- there may be one more of the line's kind
abbrev pub RoomFor : Place → LineForm → Type 0
RoomFor p (Body mark.Rung) = p.rungs < RUNGS
RoomFor p (Body (mark.Open c)) = (p.depth < DEPTH) × (p.openings < OPENINGS)
RoomFor p (Body (mark.Element l)) = p.elements < ELEMENTS
RoomFor p (Body mark.End) = Unit {0}
RoomFor p (Pins (pins.Pin l)) = p.pins < PIN_LINES
RoomFor p (Pins pins.End) = Unit {0}
RoomFor p Blank = Unit {0}
RoomFor p Magic = Unit {0}
RoomFor p (Header h) = Unit {0}

-- A rung begins where none is open, the other lines of rungs stand in one, and the lines above them in none.
abbrev pub Fits : Bool → LineForm → Type 0
Fits opened Blank = Unit {0}
Fits opened Magic = opened ≡ false
Fits opened (Header h) = opened ≡ false
Fits opened (Pins q) = opened ≡ false
Fits opened (Body mark.Rung) = opened ≡ false
Fits opened (Body (mark.Open c)) = opened ≡ true
Fits opened (Body mark.End) = opened ≡ true
Fits opened (Body (mark.Element l)) = opened ≡ true

-- and for so many bytes
abbrev pub HasRoom : Place → ℕ → LineForm → Type 0
HasRoom p size form = (p.bytes + size ≤ FILE_BYTES) × RoomFor p form

-- what was read, and where the next line stands
pub record Standing : Type 0 where
  pub place : Place
  pub settings : Settings
  pub tree : Tree

abbrev pub first : Standing
first = record { place = start; settings = defaults; tree = Closed [] }

-- behind a line that says this, but for its bytes
abbrev pub went : Standing → LineForm → Standing
went s form = record { place = behind_form s.place form; settings = settings_behind s.settings form; tree = with_form s.tree form }

abbrev pub standing_behind : ℕ → Standing → LineForm → Standing
standing_behind size s form = record {
  place = behind_said s.place size (Is form);
  settings = settings_behind s.settings form;
  tree = with_form s.tree form;
}

pub data Taken : Type 0 where
  Goes : (s : Standing) → Taken
  Stops : (f : ProjectFault) → Taken

-- the last two do not happen, since such a line has a fault
abbrev pub taken_as : Option ProjectFault → Said LineForm → ℕ → ℕ → Standing → Taken
taken_as (Some f) said number size s = Stops f
taken_as None (Is form) number size s = Goes (standing_behind size s form)
taken_as None Bad number size s = Stops (BadLine number)
taken_as None Range number size s = Stops (NumberRange number)

-- behind the line of the number, which takes so many bytes
abbrev pub taken : ℕ → List ℕ → ℕ → Standing → Taken
taken number bytes size s = taken_as (fault_of s.place number bytes size (said_in s.place.site number bytes)) (said_in s.place.site number bytes) number size s

-- in a line of the number, of which these bytes came; or refused for good
pub data Mind : Type 0 where
  Reads : (number : ℕ) (line : List ℕ) (s : Standing) → Mind
  Refuses : (f : ProjectFault) → Mind

-- the next line's number
abbrev pub next : ℕ → ℕ
next number = min (number + 1) (2 ^ 32 - 1)

abbrev pub line_done : ℕ → Taken → Mind
line_done number (Goes s) = Reads (next number) [] s
line_done number (Stops f) = Refuses f

abbrev pub pushed : ℕ → List ℕ → Standing → ℕ → Mind
pushed number line s byte = if nat_lt (length line) LINE_BYTES then Reads number (line ++ byte ∷ []) s else Refuses (LineTooLong number)

abbrev pub fed_byte : Mind → ℕ → Mind
fed_byte (Refuses f) byte = Refuses f
fed_byte (Reads number line s) byte = if byte == 10 then line_done number (taken number line (length line + 1) s) else pushed number line s byte

abbrev pub fed : Mind → List ℕ → Mind
fed m [] = m
fed m (b ∷ bs) = fed (fed_byte m b) bs

abbrev pub fresh : Mind
fresh = Reads 1 [] first

pub data Verdict : Type 0 where
  Accepts : (p : Project) → Verdict
  Rejects : (f : ProjectFault) → Verdict

-- the last case does not happen, since a text that ends so has a fault
abbrev pub project_at : Settings → Tree → Option Target → ℕ → Verdict
project_at s (Closed gs) (Some t) number = Accepts (project_of s t gs)
project_at s (Closed gs) None number = Rejects (Unclosed number)
project_at s (Building gs fs ns) t number = Rejects (Unclosed number)

abbrev pub ended_as : Option ProjectFault → ℕ → Standing → Verdict
ended_as (Some f) number s = Rejects f
ended_as None number s = project_at s.settings s.tree s.settings.target number

abbrev pub at_end : ℕ → Taken → Verdict
at_end number (Goes s) = ended_as (end_fault s.place.site number) number s
at_end number (Stops f) = Rejects f

-- the answer where the text ends
abbrev pub finished : Mind → Verdict
finished (Refuses f) = Rejects f
finished (Reads number [] s) = at_end number (Goes s)
finished (Reads number (b ∷ bs) s) = at_end (next number) (taken number (b ∷ bs) (length (b ∷ bs)) s)

-- The forms that are open tell whether a line stands in a rung.
abbrev pub site_at : Bool → held.Place → Site
site_at true p = site.Inside
site_at false part.FirstLine = site.First
site_at false part.Header = site.Header
site_at false part.PinLines = site.Pins
site_at false part.Body = site.Between

-- what a reader stands for
abbrev pub place_of : Reader → Place
place_of r = record {
  site = site_at (is_open r.forms) r.place;
  depth = depth_of r.forms;
  target = r.target;
  rungs = r.counts.rungs;
  elements = r.counts.elements;
  openings = r.counts.openings;
  pins = r.counts.pin_lines;
  bytes = r.counts.bytes;
}

abbrev pub settings_of : Reader → Settings
settings_of r = record { target = r.target; cycle = r.cycle; crystal = r.crystal; baud = r.baud; pins = r.pins }

abbrev pub standing_of : Reader → Standing
standing_of r = record { place = place_of r; settings = settings_of r; tree = tree_at r.rungs r.forms }

abbrev pub mind_of : Reader → Mind
mind_of r = Reads (next r.counts.lines) r.line.items (standing_of r)

-- a reader that answered an error, which is none where memory was wanting
abbrev pub mind_behind : Option TextError → Mind → Option Mind
mind_behind None m = Some m
mind_behind (Some (error.Refused f)) m = Some (Refuses f)
mind_behind (Some (error.Memory e)) m = None

-- The reader stands where the text takes it.
abbrev pub Stands : Reader → List ℕ → Type 0
Stands r text = mind_behind r.first (mind_of r) ≡ Some (fed fresh text)

-- why an error comes: want of memory may always be
abbrev pub IsStopped : Taken → TextError → Type 0
IsStopped t (error.Memory e) = ⊤
IsStopped t (error.Refused f) = t ≡ Stops f

abbrev pub IsRefused : Mind → TextError → Type 0
IsRefused m (error.Memory e) = ⊤
IsRefused m (error.Refused f) = m ≡ Refuses f

abbrev pub IsRejected : Verdict → TextError → Type 0
IsRejected v (error.Memory e) = ⊤
IsRejected v (error.Refused f) = v ≡ Rejects f

-- Behind an error a reader still stands where the text takes it, but where memory was wanting.
abbrev pub StandsRefused : Reader → List ℕ → TextError → Type 0
StandsRefused r text (error.Refused f) = Stands r text
StandsRefused r text (error.Memory e) = r.first ≡ Some (error.Memory e)
