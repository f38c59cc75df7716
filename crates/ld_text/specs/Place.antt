-- Where a line stands: what the lines in front of it opened, how many of each kind there were, and what a line says there.
use Rattle.std.specs.Prelude.{ℕ, ◌+◌, ◌-◌, ◌==◌, List, [], ◌∷◌, Option, None, if◌then◌else◌}
use Rattle.chip_tables.specs.declared.target.Target.{Target}
use Rattle.ld_line.specs.Said.{said_map}
use Rattle.ld_line.specs.Tokens.{tokens, is_magic}
use Rattle.ld_line.specs.Header.{header_of}
use Rattle.ld_line.specs.Pins.{pin_of_line}
use Rattle.ld_line.specs.Rungs.{rung_line_of}
use Rattle.ld_line.specs.declared.said.Said.{Said}
use Rattle.ld_line.specs.declared.said.Said.TheVariants.{Bad, Range, Is}
use Rattle.ld_line.specs.declared.header.HeaderLine.{HeaderLine}
use Rattle.ld_line.specs.declared.header.HeaderLine.TheVariants as header
use Rattle.ld_line.specs.declared.pins.PinsLine.{PinsLine}
use Rattle.ld_line.specs.declared.pins.PinsLine.TheVariants as pins
use Rattle.ld_line.specs.declared.rungs.RungLine.{RungLine}
use Rattle.ld_line.specs.declared.rungs.RungLine.TheVariants as rung
use Rattle.ld_text.specs.declared.heard.Mark.{Mark}
use Rattle.ld_text.specs.declared.heard.Mark.TheVariants as mark
use Rattle.ld_text.specs.declared.heard.LineForm.{LineForm}
use Rattle.ld_text.specs.declared.heard.LineForm.TheVariants.{Blank, Magic, Header, Pins, Body}
use Rattle.ld_text.specs.declared.place.Site.{Site}
use Rattle.ld_text.specs.declared.place.Site.TheVariants as site
use Rattle.ld_text.specs.Lines.{Line, size_of}

-- where a line stands: what the lines in front of it opened, and how many of each kind there were
pub record Place : Type 0 where
  pub site : Site
  -- how many SERIES and PARALLELs are open in the rung
  pub depth : ℕ
  -- what the last MICRO line named
  pub target : Option Target
  pub rungs : ℕ
  pub elements : ℕ
  -- how many SERIES and PARALLELs there were
  pub openings : ℕ
  -- how many pin lines there were
  pub pins : ℕ
  pub bytes : ℕ

-- a line without tokens is blank, and any other says this
abbrev pub unless_blank : List (List ℕ) → Said LineForm → Said LineForm
unless_blank [] said = Is Blank
unless_blank (t ∷ ts) said = said

-- between two rungs only a rung may begin
abbrev pub between : Said RungLine → Said LineForm
between (Is rung.Rung) = Is (Body mark.Rung)
between (Is (rung.Open c)) = Bad
between (Is rung.End) = Bad
between (Is (rung.Element k)) = Bad
between Bad = Bad
between Range = Bad

-- and in a rung all but that; an element has the number of its line
abbrev pub inside : ℕ → Said RungLine → Said LineForm
inside number (Is rung.Rung) = Bad
inside number (Is (rung.Open c)) = Is (Body (mark.Open c))
inside number (Is rung.End) = Is (Body mark.End)
inside number (Is (rung.Element k)) = Is (Body (mark.Element (record { line = number; kind = k })))
inside number Bad = Bad
inside number Range = Range

-- what the line of the number says at a part of the text
abbrev pub said_in : Site → ℕ → List ℕ → Said LineForm
said_in site.First number bytes = if is_magic bytes then Is Magic else Bad
said_in site.Header number bytes = unless_blank (tokens bytes) (said_map Header (header_of bytes))
said_in site.Pins number bytes = unless_blank (tokens bytes) (said_map Pins (pin_of_line (tokens bytes)))
said_in site.Between number bytes = unless_blank (tokens bytes) (between (rung_line_of bytes))
said_in site.Inside number bytes = unless_blank (tokens bytes) (inside number (rung_line_of bytes))

-- the place of line 1
abbrev pub start : Place
start = record { site = site.First; depth = 0; target = None; rungs = 0; elements = 0; openings = 0; pins = 0; bytes = 0 }

abbrev pub behind_header : Place → HeaderLine → Place
behind_header p (header.Micro t) = record p { target = t }
behind_header p (header.Cycle n) = p
behind_header p (header.Crystal n) = p
behind_header p (header.Baud n) = p
behind_header p header.Compiled = p
behind_header p header.Pins = record p { site = site.Pins }
behind_header p header.Program = record p { site = site.Between }

abbrev pub behind_pins : Place → PinsLine → Place
behind_pins p (pins.Pin line) = record p { pins = p.pins + 1 }
behind_pins p pins.End = record p { site = site.Header }

-- END ends what was opened last: a SERIES or PARALLEL, or else the rung
abbrev pub behind_mark : Place → Mark → Place
behind_mark p mark.Rung = record p { site = site.Inside; rungs = p.rungs + 1 }
behind_mark p (mark.Open c) = record p { depth = p.depth + 1; openings = p.openings + 1 }
behind_mark p mark.End = if p.depth == 0 then record p { site = site.Between } else record p { depth = p.depth - 1 }
behind_mark p (mark.Element l) = record p { elements = p.elements + 1 }

abbrev pub behind_form : Place → LineForm → Place
behind_form p Blank = p
behind_form p Magic = record p { site = site.Header }
behind_form p (Header h) = behind_header p h
behind_form p (Pins q) = behind_pins p q
behind_form p (Body m) = behind_mark p m

-- the place behind a line of so many bytes
abbrev pub behind_said : Place → ℕ → Said LineForm → Place
behind_said p size (Is form) = record (behind_form p form) { bytes = p.bytes + size }
behind_said p size Bad = record p { bytes = p.bytes + size }
behind_said p size Range = record p { bytes = p.bytes + size }

abbrev pub said_at : Place → ℕ → Line → Said LineForm
said_at p number l = said_in p.site number l.bytes

abbrev pub behind : Place → ℕ → Line → Place
behind p number l = behind_said p (size_of l) (said_at p number l)

-- the place behind lines, of which the first has the number
abbrev pub behind_all : Place → ℕ → List Line → Place
behind_all p number [] = p
behind_all p number (l ∷ ls) = behind_all (behind p number l) (number + 1) ls
