-- What project a text stands for, and why a text is refused.
use Rattle.std.specs.Prelude.{◌≡◌, ℕ, ◌+◌, ◌<◌, ◌≤◌, List, [], ◌∷◌, map, Some, None, Option, length, nat_lt, if◌then◌else◌, ⊤}
use Rattle.chip_tables.specs.declared.target.Target.{Target}
use Rattle.ladder_tree.specs.declared.fault.ProjectFault.{ProjectFault}
use Rattle.ladder_tree.specs.declared.fault.ProjectFault.TheVariants.{LineTooLong}
use Rattle.ladder_tree.specs.declared.project.Project.{Project}
use Rattle.ladder_tree.specs.declared.project.Rung.{Rung}
use Rattle.texts.specs.Limits as limits
use Rattle.texts.specs.declared.limits.TheConstants.{LINE_BYTES, FILE_BYTES}
use Rattle.ld_line.specs.declared.said.Said.{Said}
use Rattle.ld_line.specs.declared.said.Said.TheVariants.{Is}
use Rattle.ld_text.specs.declared.fault.TextError.{TextError}
use Rattle.ld_text.specs.declared.fault.TextError.TheVariants.{Refused, Memory}
use Rattle.ld_text.specs.declared.heard.LineForm.{LineForm}
use Rattle.ld_text.specs.declared.heard.LineForm.TheVariants.{Blank}
use Rattle.ld_text.specs.Lines.{Line, ended_lines, behind_feeds, lines_of}
use Rattle.ld_text.specs.Place.{Place, start, said_at, behind, behind_all}
use Rattle.ld_text.specs.Faults.{line_of, or_else, first_fault, end_fault}
use Rattle.ld_text.specs.Spelling.{Settings, Item, spelled_project, defaults, with_items}

-- blank lines say nothing
abbrev pub unblanked : Said LineForm → List (Said LineForm) → List (Said LineForm)
unblanked (Is Blank) rest = rest
unblanked said rest = said ∷ rest

-- what lines say, each at its place; the first has the number
abbrev pub said_by : Place → ℕ → List Line → List (Said LineForm)
said_by p number [] = []
said_by p number (l ∷ ls) = unblanked (said_at p number l) (said_by (behind p number l) (number + 1) ls)

abbrev pub project_of : Settings → Target → List Rung → Project
project_of s t gs = record { target = t; cycle = s.cycle; crystal = s.crystal; baud = s.baud; pins = s.pins; rungs = gs }

-- The lines spell the project.
pub record IsProject (ls : List Line) (p : Project) : Type 0 where
  pub items : List Item
  pub spelled : said_by start 1 ls ≡ map Is (spelled_project items p.rungs)
  pub target : (with_items defaults items).target ≡ Some p.target
  pub settings : p ≡ project_of (with_items defaults items) p.target p.rungs

-- the fault of the first line that has one, or of the end
abbrev pub text_fault : List ℕ → Option ProjectFault
text_fault text =
    or_else (first_fault start 1 (lines_of text)) (end_fault (behind_all start 1 (lines_of text)).site (length (lines_of text) + 1))

-- the text has no fault, and spells the project
pub record IsReadAs (text : List ℕ) (p : Project) : Type 0 where
  pub faultless : text_fault text ≡ None
  pub project : IsProject (lines_of text) p

-- a line that is not ended is looked at early where it is too long already
abbrev pub early_length : ℕ → List ℕ → Option ProjectFault
early_length number bytes = if nat_lt LINE_BYTES (length bytes) then Some (LineTooLong number) else None

-- the first fault of the lines that are ended, or that what stands behind them is too long
abbrev pub early_fault : List ℕ → Option ProjectFault
early_fault text = or_else (first_fault start 1 (ended_lines text)) (early_length (length (ended_lines text) + 1) (behind_feeds text))

-- why an error comes, where the text's fault is this: want of memory may always be
abbrev pub IsCause : Option ProjectFault → TextError → Type 0
IsCause found (Memory e) = ⊤
IsCause found (Refused f) = found ≡ Some f

-- what is read of a text: its limit, and one byte more
abbrev pub judged : List ℕ → List ℕ
judged text = limits.judged FILE_BYTES text

-- The whole text and what is read of it are refused, both at one line. In the last line that is read, which is cut, the fault may be another.
pub record IsRefusedAlike (text : List ℕ) : Type 0 where
  pub whole : ProjectFault
  pub part : ProjectFault
  pub refused : text_fault text ≡ Some whole
  pub cut : text_fault (judged text) ≡ Some part
  pub line : line_of part ≡ line_of whole
  pub within : line_of whole ≤ length (lines_of (judged text))
  pub earlier : line_of whole < length (lines_of (judged text)) → part ≡ whole
