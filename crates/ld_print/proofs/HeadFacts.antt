-- What is known of the settings and the pins of a text that has no fault.
use Rattle.std.proofs.Common.{◌≡◌, ℕ, ◌+◌, ◌<◌, ◌≤◌, leb, true, false, List, [], ◌∷◌, ◌++◌, length, Option, Some, None, sym, subst, arith, append_assoc, append-nil, length-append}
use Rattle.std.proofs.lemmas.Bool.Decides.{nat_tests}
use Rattle.chip_tables.specs.declared.target.Target.{Target}
use Rattle.ladder_tree.specs.declared.project.PinLine as pin
use Rattle.ladder_tree.specs.declared.limits.TheConstants.{PIN_LINES}
use Rattle.ld_line.specs.Numbers.{most_setting}
use Rattle.ld_line.specs.Words.{is_target_built}
use Rattle.ld_line.specs.declared.pins.PinsLine.TheVariants as pins
use Rattle.ld_text.specs.declared.heard.LineForm.{LineForm}
use Rattle.ld_text.specs.declared.heard.LineForm.TheVariants.{Pins}
use Rattle.ld_text.specs.Place.{Place}
use Rattle.ld_text.specs.declared.place.Site.{Site}
use Rattle.ld_text.specs.declared.place.Site.TheVariants as site
use Rattle.ld_text.specs.Spelling.{Settings, Item, Chip, Cycle, Crystal, Baud, Compiled, PinSection, pin_forms, spelled_item, spelled_items, with_item, with_items}
use Rattle.ld_print.proofs.HeadLemmas.{PinFits}
use Rattle.ld_print.proofs.FineLemmas.{AllFine}

abbrev pub place_in : Site → Option Target → ℕ → Place
place_in x t k = record { site = x; depth = 0; target = t; rungs = 0; elements = 0; openings = 0; pins = k; bytes = 0 }

abbrev pub IsBuilt : Option Target → Type 0
IsBuilt None = Unit {0}
IsBuilt (Some t) = is_target_built t ≡ true

abbrev pub AllPinsFit : List pin.PinLine → Type 0
AllPinsFit [] = Unit {0}
AllPinsFit (l ∷ ls) = PinFits l × AllPinsFit ls

pins_append : (ls ms : List pin.PinLine) → AllPinsFit ls → AllPinsFit ms → AllPinsFit (ls ++ ms)
pins_append [] ms h g = g
pins_append (l ∷ ls) ms h g = (h.0, pins_append ls ms h.1 g)

pub record SettingsFit (s : Settings) : Type 0 where
  pub target : IsBuilt s.target
  pub cycle : s.cycle ≤ most_setting
  pub crystal : s.crystal ≤ most_setting
  pub baud : s.baud ≤ most_setting
  pub pins : AllPinsFit s.pins
  pub few : length s.pins ≤ PIN_LINES

-- the settings fit, and what stands behind them is known at the place behind them
pub record Led (x : Site) (s : Settings) (forms : List LineForm) : Type 0 where
  pub fit : SettingsFit s
  pub rest : AllFine (place_in x s.target (length s.pins)) forms

pins_led : (ls : List pin.PinLine) (s : Settings) (rest : List LineForm) → Led site.Pins s (pin_forms ls ++ rest) →
    Led site.Pins (with_item s (PinSection ls)) rest
pins_led [] s rest h = subst (λ ps. Led site.Pins (record s { pins = ps }) rest) (sym (append-nil s.pins)) h
pins_led (l ∷ ls) s rest h =
    let one : Settings = record s { pins = s.pins ++ l ∷ [] } in
    let count : length s.pins + 1 ≡ length (s.pins ++ l ∷ []) = omega (arith, length-append s.pins (l ∷ [])) in
    let fine = h.rest.0 in
    let few = below (length s.pins) fine.few in
    subst (λ ps. Led site.Pins (record s { pins = ps }) rest) (append_assoc s.pins (l ∷ []) ls)
    (pins_led ls one rest (record {
      fit = record {
        target = h.fit.target;
        cycle = h.fit.cycle;
        crystal = h.fit.crystal;
        baud = h.fit.baud;
        pins = pins_append s.pins (l ∷ []) h.fit.pins (fine.fits, tt);
        few = omega (arith, few, count);
      };
      rest = subst (λ k. AllFine (place_in site.Pins s.target k) (pin_forms ls ++ rest)) count h.rest.1;
    }))
  where
    below : (n : ℕ) → leb PIN_LINES n ≡ false → n < PIN_LINES
    below n h = grind (arith, nat_tests)

item_led : (i : Item) (s : Settings) (rest : List LineForm) → Led site.Header s (spelled_item i ++ rest) → Led site.Header (with_item s i) rest
item_led (Chip t) s rest h = record {
  fit = record {
    target = h.rest.0.fits;
    cycle = h.fit.cycle;
    crystal = h.fit.crystal;
    baud = h.fit.baud;
    pins = h.fit.pins;
    few = h.fit.few;
  };
  rest = h.rest.1;
}
item_led (Cycle n) s rest h = record {
  fit = record {
    target = h.fit.target;
    cycle = h.rest.0.fits;
    crystal = h.fit.crystal;
    baud = h.fit.baud;
    pins = h.fit.pins;
    few = h.fit.few;
  };
  rest = h.rest.1;
}
item_led (Crystal n) s rest h = record {
  fit = record {
    target = h.fit.target;
    cycle = h.fit.cycle;
    crystal = h.rest.0.fits;
    baud = h.fit.baud;
    pins = h.fit.pins;
    few = h.fit.few;
  };
  rest = h.rest.1;
}
item_led (Baud n) s rest h = record {
  fit = record {
    target = h.fit.target;
    cycle = h.fit.cycle;
    crystal = h.fit.crystal;
    baud = h.rest.0.fits;
    pins = h.fit.pins;
    few = h.fit.few;
  };
  rest = h.rest.1;
}
item_led Compiled s rest h = record { fit = h.fit; rest = h.rest.1 }
item_led (PinSection ls) s rest h =
    let inner = pins_led ls s (Pins pins.End ∷ rest) (record {
      fit = h.fit;
      rest = subst (AllFine (place_in site.Pins s.target (length s.pins)))
          (append_assoc (pin_forms ls) (Pins pins.End ∷ []) rest) h.rest.1;
    }) in
    record { fit = inner.fit; rest = inner.rest.1 }

pub items_led : (is : List Item) (s : Settings) (rest : List LineForm) → Led site.Header s (spelled_items is ++ rest) → Led site.Header (with_items s is) rest
items_led [] s rest h = h
items_led (i ∷ is) s rest h =
    items_led is (with_item s i) rest (item_led i s (spelled_items is ++ rest)
    (record {
      fit = h.fit;
      rest = subst (AllFine (place_in site.Header s.target (length s.pins))) (append_assoc (spelled_item i) (spelled_items is) rest)
          h.rest;
    }))
