-- What a program shows, by the lists of its state.
use Rattle.std.proofs.Common.{◌≡◌, ℕ, ◌*◌, ◌<◌, Bool, false, nat_eq, ap, ◌≤◌, List, length, take, Option, None, Some, refl, sym, ◌∙◌, arith, ℤ, pos}
use Rattle.std.specs.Prelude.{slice_index_or}
use Rattle.std.specs.Option.{option_to_list}
use Rattle.std.proofs.lemmas.Bool.Decides.{nat_tests}
use Rattle.std.proofs.lemmas.List.{ext_get_or, get_or-take, length-take-le, take_all}
use Rattle.std.proofs.lemmas.List.FromFn.{length-map-range_with_len, get_or-map-range_with_len}
use Rattle.int_code.specs.declared.state.State.{State}
use Rattle.int_code.specs.Held.{store_of}
use Rattle.int_code.specs.declared.op.IntProgram.{IntProgram}
use Rattle.int_sim.specs.Machine.{IsWhole, HasPlaces, view_by}
use Rattle.ladder_tree.specs.declared.names.Names.{Names}
use Rattle.ladder_meaning.specs.View.{firsts, sent_of, bytes_of}
use Rattle.ladder_trace.specs.Duty.{duty_as}
use Rattle.ladder_trace.specs.declared.duty.DutyShown.{DutyShown}

-- the first items of a list are those that its numbers have
pub first_items : {A : Type 0} (d : A) (n : ℕ) (xs : List A) → n ≤ length xs → take n xs ≡ firsts n (λ k. slice_index_or xs k d)
first_items d n xs fits =
    let front : length (take n xs) ≡ n = length-take-le n xs fits in
    ext_get_or d (take n xs) (firsts n (λ k. slice_index_or xs k d))
    (front ∙ sym (length-map-range_with_len (λ k. slice_index_or xs k d) 0 n))
    (λ i lt. get_or-take n xs i d (omega arith) ∙ sym (get_or-map-range_with_len (λ k. slice_index_or xs k d) 0 n i i d (omega arith) (omega arith)))

-- a list of so many items is those that its numbers have
all_items : {A : Type 0} (d : A) (n : ℕ) (xs : List A) → length xs ≡ n → xs ≡ firsts n (λ k. slice_index_or xs k d)
all_items d n xs is = sym (take_all n xs (omega arith)) ∙ first_items d n xs (omega arith)

was_sent : (o : Option ℕ) → o ≡ sent_of (option_to_list o)
was_sent None = refl
was_sent (Some byte) = refl

-- the lists of a state, and what its devices show, are what the program shows
pub shown : (duty : DutyShown) (n : Names) (p : IntProgram) (s : State) (os rs : List Bool) (vs : List ℤ) (pwm : Option ℕ) (eeprom : Option (List ℕ))
    → IsWhole (record { program = p; state = s }) → HasPlaces n p
    → os ≡ s.outputs.items → rs ≡ take (length n.relays) s.bits.items → vs ≡ s.numbers.items → pwm ≡ duty_as duty s.devices.duty
    → eeprom ≡ bytes_of p.persistent (λ k. slice_index_or s.devices.eeprom k 0)
    → record { outputs = os; relays = rs; variables = vs; pwm = pwm; sent = s.devices.sent; eeprom = eeprom } ≡ view_by duty n p (store_of s)
shown duty n p s os rs vs pwm eeprom w places o r v d e =
    let outputs = all_items false p.outputs s.outputs.items w.outputs in
    let relays = first_items false (length n.relays) s.bits.items (omega (arith, w.bits, places.relays)) in
    let variables = all_items (pos 0) p.variables s.numbers.items w.numbers in
    let sent = was_sent s.devices.sent in
    cc

pub saved_bytes : (n : ℕ) (xs out : List ℕ) → 0 < n → 2 * n ≤ length xs → out ≡ take (2 * n) xs → Some out ≡ bytes_of n (λ k. slice_index_or xs k 0)
saved_bytes n xs out some fits is = rw (are_some, is) (ap Some (first_items 0 (2 * n) xs fits))
  where
    are_some : nat_eq n 0 ≡ false
    are_some = grind (arith, nat_tests)
