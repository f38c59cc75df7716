-- What is known of a project that a text stands for.
use Rattle.std.proofs.Common.{◌≡◌, ℕ, ◌+◌, ◌≤◌, true, List, ◌∷◌, ◌++◌, length, map, Some, None, refl, sym, ap, subst, arith}
use Rattle.ladder_tree.specs.declared.project.Project.{Project}
use Rattle.ladder_tree.specs.declared.limits.TheConstants.{PIN_LINES}
use Rattle.ld_line.specs.Numbers.{most_setting}
use Rattle.ld_line.specs.Words.{is_target_built}
use Rattle.ld_line.specs.declared.header.HeaderLine.TheVariants as header
use Rattle.ld_text.specs.declared.heard.LineForm.TheVariants.{Header, Body}
use Rattle.ld_text.specs.declared.place.Site.{Site}
use Rattle.ld_text.specs.declared.place.Site.TheVariants as site
use Rattle.ld_text.specs.Lines.{lines_of}
use Rattle.ld_text.specs.Place.{start, behind_all}
use Rattle.ld_text.specs.Faults.{first_fault, end_fault}
use Rattle.ld_text.specs.Spelling.{Settings, spelled, spelled_items, spelled_project, defaults, with_items}
use Rattle.ld_text.specs.Text.{IsReadAs}
use Rattle.ld_print.proofs.FineLemmas.{AllFine, none_both, fine_lines}
use Rattle.ld_print.proofs.HeadFacts.{place_in, IsBuilt, AllPinsFit, Led, items_led}
use Rattle.ld_print.proofs.CleanLemmas.{text_clean}

pub record Known (p : Project) : Type 0 where
  pub built : is_target_built p.target ≡ true
  pub cycle : p.cycle ≤ most_setting
  pub crystal : p.crystal ≤ most_setting
  pub baud : p.baud ≤ most_setting
  pub pins : AllPinsFit p.pins
  pub few : length p.pins ≤ PIN_LINES
  pub body : AllFine (place_in site.Between (Some p.target) (length p.pins)) (map Body (spelled p.rungs))

closes : (x : Site) (n : ℕ) → end_fault x n ≡ None → x ≡ site.Between
closes site.First n h = absurd cc
closes site.Header n h = absurd cc
closes site.Pins n h = absurd cc
closes site.Between n h = refl
closes site.Inside n h = absurd cc

pub known : (text : List ℕ) (p : Project) → IsReadAs text p → Known p
known text p r =
    let none = none_both (first_fault start 1 (lines_of text)) (end_fault (behind_all start 1 (lines_of text)).site (length (lines_of text) + 1)) r.faultless in
    let closed = closes (behind_all start 1 (lines_of text)).site (length (lines_of text) + 1) none.1 in
    let items = r.project.items in
    let all = fine_lines (lines_of text) start 1 (spelled_project items p.rungs) (text_clean text) none.0 r.project.spelled closed in
    let first : Led site.Header defaults (spelled_items items ++ Header header.Program ∷ map Body (spelled p.rungs)) = record {
      fit = record { target = tt; cycle = omega arith; crystal = omega arith; baud = omega arith; pins = tt; few = omega arith };
      rest = all.1;
    } in
    let s : Settings = with_items defaults items in
    let led = items_led items defaults (Header header.Program ∷ map Body (spelled p.rungs)) first in
    let same = r.project.settings in
    let pins : s.pins ≡ p.pins = sym (ap (λ x. x.pins) same) in
    record {
      built = subst IsBuilt r.project.target led.fit.target;
      cycle = subst (λ n. n ≤ most_setting) (sym (ap (λ x. x.cycle) same)) led.fit.cycle;
      crystal = subst (λ n. n ≤ most_setting) (sym (ap (λ x. x.crystal) same)) led.fit.crystal;
      baud = subst (λ n. n ≤ most_setting) (sym (ap (λ x. x.baud) same)) led.fit.baud;
      pins = subst AllPinsFit pins led.fit.pins;
      few = subst (λ ps. length ps ≤ PIN_LINES) pins led.fit.few;
      body =
          subst (λ t. AllFine (place_in site.Between t (length p.pins)) (map Body (spelled p.rungs))) r.project.target
          (subst (λ ps. AllFine (place_in site.Between s.target (length ps)) (map Body (spelled p.rungs))) pins led.rest.1);
    }
