-- What the printed lines above PROGRAM say.
use Rattle.std.proofs.Common.{◌≡◌, ℕ, ◌≤◌, true, false, List, [], ◌∷◌, ◌++◌, length, codes, Option, Some, None, refl, sym, ap, ◌∙◌, arith, append-nil, length-append}
use Rattle.std.specs.Prelude.{replicate}
use Rattle.std.specs.Fmt.{decimal}
use Rattle.std.proofs.lemmas.Fmt.{length-decimal-le}
use Rattle.chip_tables.specs.declared.target.Target.{Target}
use Rattle.chip_tables.specs.declared.target.Target.TheVariants.{F628, F877, Mega16, Interp, AnsiC}
use Rattle.ladder_tree.specs.declared.project.PinLine as pin
use Rattle.ladder_tree.specs.Names.{is_name}
use Rattle.ld_line.specs.Header.{behind_word, setting, tokens_say, compiled_or, micro_or, header_of}
use Rattle.ld_line.specs.Numbers.{natural_in, most_setting, most_pin}
use Rattle.ld_line.specs.Pins.{pin_of_line}
use Rattle.ld_line.specs.Said.{said_map, both}
use Rattle.ld_line.specs.Targets.{target_text}
use Rattle.ld_line.specs.Tokens.{tokens}
use Rattle.ld_line.specs.Words.{word_of}
use Rattle.ld_line.specs.declared.said.Said.TheVariants.{Is}
use Rattle.ld_line.specs.declared.header.HeaderLine.{HeaderLine}
use Rattle.ld_line.specs.declared.header.HeaderLine.TheVariants as header
use Rattle.ld_line.specs.declared.pins.PinsLine.TheVariants as pins
use Rattle.ld_text.specs.declared.heard.LineForm.{LineForm}
use Rattle.ld_text.specs.declared.heard.LineForm.TheVariants.{Header, Pins}
use Rattle.ld_text.specs.declared.place.Site.TheVariants as site
use Rattle.ld_text.specs.Place.{unless_blank, said_in}
use Rattle.ld_text.specs.Faults.{has_unbuilt_word, begins_unbuilt}
use Rattle.ld_print.specs.Printed as print
use Rattle.ld_print.specs.Words.{behind_spaces}
use Rattle.ld_print.proofs.TokenLemmas.{IsToken, tokens_printed, trimmed_token, tokens_token}
use Rattle.ld_print.proofs.NumberLemmas.{decimal_token, natural_read}
use Rattle.ld_print.proofs.LineLemmas.{Fits, clean_token, clean_both}
use Rattle.ld_print.proofs.OperandLemmas.{name_short, name_read}
use Rattle.texts.specs.declared.limits.TheConstants.{LINE_BYTES}

pub record HeaderSaid (line : List ℕ) (f : LineForm) : Type 0 where
  pub said : (number : ℕ) → said_in site.Header number line ≡ Is f
  pub free : (t : Target) → begins_unbuilt t (tokens line) ≡ false
  pub fits : Fits line

pub micro_said : (t : Target) → HeaderSaid (codes "MICRO=" ++ target_text t) (Header (header.Micro (Some t)))
micro_said F628 = record { said = λ n. refl; free = λ o. refl; fits = record { short = omega arith; clean = refl } }
micro_said F877 = record { said = λ n. refl; free = λ o. refl; fits = record { short = omega arith; clean = refl } }
micro_said Mega16 = record { said = λ n. refl; free = λ o. refl; fits = record { short = omega arith; clean = refl } }
micro_said Interp = record { said = λ n. refl; free = λ o. refl; fits = record { short = omega arith; clean = refl } }
micro_said AnsiC = record { said = λ n. refl; free = λ o. refl; fits = record { short = omega arith; clean = refl } }

token_said : (line : List ℕ) (h : HeaderLine) → IsToken line → length line ≤ LINE_BYTES → behind_word (codes "MICRO=") line ≡ None
    → behind_word (codes "COMPILED=") line ≡ None → setting line ≡ Is h → word_of line ≡ None → HeaderSaid line (Header h)
token_said line h t short a b e w =
    let whole = trimmed_token line t in
    let one = tokens_token line t in
    let says : header_of line ≡ Is h =
    ap (λ x. micro_or (behind_word (codes "MICRO=") x) (compiled_or (behind_word (codes "COMPILED=") x) (tokens_say (tokens line)))) whole
    ∙ ap (λ x. micro_or x (compiled_or (behind_word (codes "COMPILED=") line) (tokens_say (tokens line)))) a
    ∙ ap (λ x. compiled_or x (tokens_say (tokens line))) b
    ∙ ap tokens_say one ∙ e in
    record {
      said = λ n. ap (λ ts. unless_blank ts (said_map Header (header_of line))) one ∙ ap (said_map Header) says;
      free = λ t. ap (begins_unbuilt t) one ∙ ap (has_unbuilt_word t) w;
      fits = record { short = short; clean = clean_token line t.plain };
    }

key_short : (n : ℕ) (key : List ℕ) → length key ≤ 8 → n ≤ most_setting → length (key ++ decimal n) ≤ LINE_BYTES
key_short n key k h = omega (arith, length-append key (decimal n), length-decimal-le 9 n (omega arith) (omega arith) (omega arith))

pub cycle_said : (n : ℕ) → n ≤ most_setting → HeaderSaid (codes "CYCLE=" ++ decimal n) (Header (header.Cycle n))
unfolding setting
cycle_said n h =
    token_said (codes "CYCLE=" ++ decimal n) (header.Cycle n) (record { some = omega arith; plain = (decimal_token n (omega arith)).plain })
    (key_short n (codes "CYCLE=") (omega arith) h) refl refl (ap (said_map header.Cycle) (natural_read 0 most_setting n (omega arith) h (omega arith))) refl

pub crystal_said : (n : ℕ) → n ≤ most_setting → HeaderSaid (codes "CRYSTAL=" ++ decimal n) (Header (header.Crystal n))
unfolding setting
crystal_said n h =
    token_said (codes "CRYSTAL=" ++ decimal n) (header.Crystal n) (record { some = omega arith; plain = (decimal_token n (omega arith)).plain })
    (key_short n (codes "CRYSTAL=") (omega arith) h) refl refl (ap (said_map header.Crystal) (natural_read 0 most_setting n (omega arith) h (omega arith)))
    refl

pub baud_said : (n : ℕ) → n ≤ most_setting → HeaderSaid (codes "BAUD=" ++ decimal n) (Header (header.Baud n))
unfolding setting
baud_said n h =
    token_said (codes "BAUD=" ++ decimal n) (header.Baud n) (record { some = omega arith; plain = (decimal_token n (omega arith)).plain })
    (key_short n (codes "BAUD=") (omega arith) h) refl refl (ap (said_map header.Baud) (natural_read 0 most_setting n (omega arith) h (omega arith))) refl

-- a pin line that is read again where it is printed
pub record PinFits (p : pin.PinLine) : Type 0 where
  pub named : is_name p.name ≡ true
  pub number : p.pin ≤ most_pin
  pub free : has_unbuilt_word Interp (word_of p.name) ≡ false

pub record PinSaid (line : List ℕ) (p : pin.PinLine) : Type 0 where
  pub said : (number : ℕ) → said_in site.Pins number line ≡ Is (Pins (pins.Pin p))
  pub free : begins_unbuilt Interp (tokens line) ≡ false
  pub short : length line ≤ 100
  pub clean : Fits line

at_token : IsToken (codes "at")
at_token = record { some = omega arith; plain = refl }

pin_is : (p : pin.PinLine) → print.pin_line p ≡ replicate 4 32 ++ (p.name ++ behind_spaces (codes "at" ∷ decimal p.pin ∷ []))
pin_is p = ap (λ d. codes "    " ++ (p.name ++ (codes " at " ++ d))) (sym (append-nil (decimal p.pin)))

pub pin_said : (p : pin.PinLine) → PinFits p → PinSaid (print.pin_line p) p
pin_said p f =
    let n = name_short p.name f.named in
    let d = decimal_token p.pin (omega (arith, f.number)) in
    let ts : tokens (print.pin_line p) ≡ p.name ∷ codes "at" ∷ decimal p.pin ∷ [] =
    ap tokens (pin_is p) ∙ tokens_printed 4 p.name (codes "at" ∷ decimal p.pin ∷ []) n.token (at_token, (d, tt)) in
    let short : length (print.pin_line p) ≤ 100 = omega (
      arith,
      length-append p.name (codes " at " ++ decimal p.pin),
      length-append (codes " at ")
          (decimal p.pin),
      n.short,
      length-decimal-le 3 p.pin (omega arith) (omega (arith, f.number)) (omega (arith, f.number)),
    ) in
    record {
      said = λ number.
          ap (λ ts. unless_blank ts (said_map Pins (pin_of_line ts))) ts
          ∙ ap (λ s. said_map Pins (said_map (λ p. pins.Pin (record { name = p.0; pin = p.1 })) (both s (natural_in 0 most_pin (decimal p.pin)))))
          (name_read p.name f.named)
          ∙ ap (λ s. said_map Pins (said_map (λ p. pins.Pin (record { name = p.0; pin = p.1 })) (both (Is p.name) s)))
          (natural_read 0 most_pin p.pin (omega arith) f.number (omega (arith, f.number)));
      free = ap (begins_unbuilt Interp) ts ∙ f.free;
      short = short;
      clean = record {
        short = omega (arith, short);
        clean = clean_both (codes "    ") (p.name ++ (codes " at " ++ decimal p.pin)) refl
            (clean_both p.name (codes " at " ++ decimal p.pin) (clean_token p.name n.token.plain) (clean_both (codes " at ") (decimal p.pin) refl
            (clean_token (decimal p.pin) d.plain)));
      };
    }
