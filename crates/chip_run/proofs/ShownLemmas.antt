-- What is shown of a chip that shows a ladder's state.
use Rattle.std.proofs.Common.{◌≡◌, ℕ, ◌+◌, ◌*◌, ◌<◌, Bool, false, ℤ, pos, negsuc, List, [], Option, Some, None, length, map, get_or}
use Rattle.std.proofs.Common.{nat_eq, refl, sym, ap, ◌∙◌, arith}
use Rattle.std.specs.Prelude.{IsSome, if◌then◌else◌}
use Rattle.std.specs.Int.{int_wrap, w16, cast_signed}
use Rattle.std.specs.Int.RustNames.{FitsSigned}
use Rattle.std.proofs.lemmas.Bool.Decides.{nat_tests}
use Rattle.std.proofs.lemmas.Int.{ints, int_wrap_fits}
use Rattle.std.proofs.lemmas.List.{ext_get_or, length-map, get_or-map}
use Rattle.std.proofs.lemmas.List.Elements.{All-get_or}
use Rattle.std.proofs.lemmas.List.FromFn.{length-map-range_with_len, get_or-map-range_with_len}
use Rattle.chip_tables.specs.declared.pins.PortBit.{PortBit}
use Rattle.ld_base.specs.Wrap.{wrap}
use Rattle.ladder_tree.specs.Names.{names_of}
use Rattle.ladder_meaning.specs.Device.{word_of}
use Rattle.ladder_meaning.specs.Numbers.{IsNumber}
use Rattle.ladder_meaning.specs.View.{firsts, bytes_of}
use Rattle.ladder_rules.specs.Assigned.{name_bit}
use Rattle.chip_tables.specs.declared.target.Target.{Target}
use Rattle.chip_meaning.specs.Chip.{View}
use Rattle.chip_meaning.specs.Shows.{HasNumber, HasBit}
use Rattle.chip_run.specs.Shown.{latch_at, kept_bit, number_at}
use Rattle.chip_run.specs.ShownAgree.{ShownAgree}

map_same : {X Y : Type 0} (f g : X → Y) (d : X) (e : Y) (xs : List X) → ((k : ℕ) → k < length xs → f (get_or xs k d) ≡ g (get_or xs k d)) → map f xs ≡ map g xs
map_same f g d e xs h =
    ext_get_or e (map f xs) (map g xs) (length-map xs f ∙ sym (length-map xs g))
    (λ i lt. let below : i < length xs = rw (length-map xs f) at lt in get_or-map f xs i d e below ∙ h i below ∙ sym (get_or-map g xs i d e below))

firsts_map : {X Y : Type 0} (f : ℕ → Y) (g : X → Y) (d : X) (e : Y) (xs : List X) → ((k : ℕ) → k < length xs → f k ≡ g (get_or xs k d)) →
    firsts (length xs) f ≡ map g xs
firsts_map f g d e xs h =
    let size = length-map-range_with_len f 0 (length xs) in
    ext_get_or e (firsts (length xs) f) (map g xs) (size ∙ sym (length-map xs g))
    (λ i lt.
    let below : i < length xs = rw size at lt in
    get_or-map-range_with_len f 0 (length xs) i i e below (omega arith) ∙ h i below ∙ sym (get_or-map g xs i d e below))

firsts_same : {Y : Type 0} (f g : ℕ → Y) (e : Y) (n : ℕ) → ((k : ℕ) → k < n → f k ≡ g k) → firsts n f ≡ firsts n g
firsts_same f g e n h =
    let size = length-map-range_with_len f 0 n in
    ext_get_or e (firsts n f) (firsts n g) (size ∙ sym (length-map-range_with_len g 0 n))
    (λ i lt.
    let below : i < n = rw size at lt in
    get_or-map-range_with_len f 0 n i i e below (omega arith) ∙ h i below ∙ sym (get_or-map-range_with_len g 0 n i i e below (omega arith)))

fits : (n : ℤ) → IsNumber n → FitsSigned w16 n
fits (pos a) h = grind (arith, nat_tests, ints, h)
fits (negsuc a) h = grind (arith, nat_tests, ints, h)

word_small : (n : ℤ) → word_of n < 65536
word_small (pos a) = omega arith
word_small (negsuc a) = omega arith

word_again : (m : ℕ) → m < 65536 → word_of (pos m) ≡ m
word_again m h = omega (arith, h)

-- a number of 16 bits is that of its word
number_back : (n : ℤ) → IsNumber n → wrap (pos (word_of n)) ≡ n
unfolding int_wrap
number_back n h = ap (cast_signed w16) (word_again (word_of n) (word_small n)) ∙ int_wrap_fits w16 n (fits n h)

latch_same : (v : View) (o : Option PortBit) (b : Bool) → IsSome o → ((place : PortBit) → o ≡ Some place → v.latch place ≡ b) → latch_at v o ≡ b
latch_same v None b some h = absurd (cc)
latch_same v (Some place) b some h = h place refl

bit_same : (t : Target) (v : View) (variables k : ℕ) (b : Bool) → HasBit t v variables k b → kept_bit t variables v k ≡ b
bit_same t v variables k b h = rw h.at h.holds

number_same : (t : Target) (v : View) (k : ℕ) (n : ℤ) → IsNumber n → HasNumber t v k (word_of n) → number_at t v k ≡ n
number_same t v k n short h =
    let sum : v.cell h.low + 256 * v.cell h.high ≡ word_of n = omega (arith, h.holds) in
    rw (h.at_low, h.at_high) (ap (λ m. wrap (pos m)) sum ∙ number_back n short)

pub shown_agrees : ShownAgree
shown_agrees p v e places room short s =
    let n = names_of p.rungs in
    let outputs : map (λ name. latch_at v (name_bit p name)) n.outputs ≡ map e.state.bit n.outputs =
    map_same (λ name. latch_at v (name_bit p name)) e.state.bit [] false n.outputs
    (λ k lt. latch_same v (name_bit p (get_or n.outputs k [])) (e.state.bit (get_or n.outputs k []))
    (All-get_or (λ name. IsSome (name_bit p name)) n.outputs k [] lt places.each) (λ b is. s.outputs k b lt is)) in
    let relays : firsts (length n.relays) (kept_bit p.target (length n.variables) v) ≡ map e.state.bit n.relays =
    firsts_map (kept_bit p.target (length n.variables) v) e.state.bit [] false n.relays
    (λ k lt. bit_same p.target v (length n.variables) k (e.state.bit (get_or n.relays k [])) (s.relays k lt)) in
    let variables : firsts (length n.variables) (number_at p.target v) ≡ map e.state.number n.variables =
    firsts_map (number_at p.target v) e.state.number [] (pos 0) n.variables
    (λ k lt. number_same p.target v k (e.state.number (get_or n.variables k [])) (short (get_or n.variables k [])) (s.variables k lt)) in
    let bytes : firsts (2 * length n.persistent) v.eeprom ≡ firsts (2 * length n.persistent) e.state.eeprom =
    firsts_same v.eeprom e.state.eeprom 0 (2 * length n.persistent) (λ k lt. s.eeprom k (omega (arith, lt, room))) in
    let eeprom : bytes_of (length n.persistent) v.eeprom ≡ bytes_of (length n.persistent) e.state.eeprom =
    ap (λ l. if nat_eq (length n.persistent) 0 then None else Some l) bytes in
    rw (s.without_duty, outputs, relays, variables, eeprom) refl
