use Rattle.std.proofs.Common.{◌≡◌, ℕ, List, Some, Ok, Err, length, refl, sym, ap, subst, ◌∙◌, arith}
use Rattle.chip_tables.specs.declared.mega16.TheConstants.{FLASH_WORDS}
use Rattle.chip_tables.specs.declared.target.Target.{Target}
use Rattle.chip_tables.specs.declared.target.Target.TheVariants.{Mega16}
use Rattle.intel_hex.specs.Image.{IsImage}
use Rattle.intel_hex.specs.Text.{hex_text}
use Rattle.intel_hex.specs.Verdict.{hex_verdict}
use Rattle.intel_hex.specs.declared.image.Image.{Image}
use Rattle.chip_meaning.specs.Carries.{Carries}
use Rattle.avr_chip.specs.Machine.{IsReset, avr_chip}
use Rattle.avr_file.proofs.OnceLemmas.{has_settings}
use Rattle.avr_file.proofs.write.compile_hex.Goals as goal

pub unreachable-requires : goal.unreachable-requires
unreachable-requires c = c.firmware.ensures.built.0 (c.in-Err-NotBuilt.is ∙ ap Err c.in-Err-NotBuilt.field-0-is) c.requires.built

pub unreachable-requires-in-Err-CodeFull : goal.unreachable-requires-in-Err-CodeFull
unreachable-requires-in-Err-CodeFull c =
    let p = c.args.legal.now.project in
    let s = has_settings p c.requires.target c.args.legal.now.rules in
    let full = c.firmware.ensures.full s.0 s.1 _ _ (c.in-Err-CodeFull.is ∙ ap Err c.in-Err-CodeFull.field-0-is) in
    let needed = full.0.needed in
    let more = full.0.more in
    let room = c.requires.room in
    omega arith

pub returns-clause-cycles : goal.returns-clause-cycles
returns-clause-cycles c =
    let s = has_settings c.args.legal.now.project c.requires.target c.args.legal.now.rules in (c.in-Ok.ensures.ok s.0 s.1).cycles_few

pub returns-clause-boot : goal.returns-clause-boot
returns-clause-boot c =
    let s = has_settings c.args.legal.now.project c.requires.target c.args.legal.now.rules in (c.in-Ok.ensures.ok s.0 s.1).boot_few

pub image_of-requires : goal.image_of-requires
image_of-requires c =
    let s = has_settings c.args.legal.now.project c.requires.target c.args.legal.now.rules in
    let few = (c.in-Ok.ensures.ok s.0 s.1).words_few in
    let room = c.requires.room in
    let same = ap (length {A = ℕ}) c.as_slice.ensures in
    omega arith

pub returns-clause-carries : goal.returns-clause-carries
returns-clause-carries c =
    let p = c.args.legal.now.project in
    let s = has_settings p c.requires.target c.args.legal.now.rules in
    let made = c.in-Ok.ensures.ok s.0 s.1 in
    let image = c.in_ok-image.image in
    let fits = c.in_ok-image.ensures in
    let words : image.words ≡ c.in-Ok.made.words = fits.words ∙ c.as_slice.ensures in
    let text : c.in_ok-text.text ≡ hex_text image = c.in_ok-text.ensures in
    record {
      image = image;
      text = text;
      read = ap (hex_verdict Mega16) text ∙ subst (λ (t : Target). hex_verdict t (hex_text image) ≡ Ok image) fits.target (c.written_is_read.ensures image fits.fits);
      few = let few = made.words_few in let same = ap (length {A = ℕ}) words in omega arith;
      settings = s.0;
      set = s.1;
      carries = subst (λ (ws : List ℕ). Carries avr_chip (IsReset s.0) p ws c.in-Ok.made.cycles c.in-Ok.made.boot) (sym words) made.carries;
    }

pub returns-clause-words : goal.returns-clause-words
returns-clause-words c =
    let image = c.in_ok-image.image in
    let fits = c.in_ok-image.ensures in
    let text : c.in_ok-text.text ≡ hex_text image = c.in_ok-text.ensures in
    record {
      image = image;
      read = ap (hex_verdict Mega16) text ∙ subst (λ (t : Target). hex_verdict t (hex_text image) ≡ Ok image) fits.target (c.written_is_read.ensures image fits.fits);
      count = sym c.len.ensures;
    }
