-- Elements keep each variable's number within 16 bits.
use Rattle.std.proofs.Common.{ℕ, zero, suc, ◌<◌, Bool, true, false, cond, not, ◌&&◌, List, [], ◌∷◌, ◌++◌, ℤ, pos, negsuc, Option, Some, None, IfSome, All, refl, arith}
use Rattle.std.proofs.lemmas.Bool.{and_from}
use Rattle.std.proofs.lemmas.Bool.Decides.{nat_tests}
use Rattle.std.proofs.lemmas.Int.{ints, SFits-int_wrap}
use Rattle.std.proofs.lemmas.List.Elements.{All-get_or, All-head, All-tail}
use Rattle.std.specs.Fmt.{decimal}
use Rattle.std.specs.Int.{w16}
use Rattle.std.specs.Int.RustNames.{FitsSigned}
use Rattle.std.specs.Ordering.{int_eq}
use Rattle.std.specs.Prelude.{int_le, int_lt, slice_get}
use Rattle.std.specs.Str.{bytes_eq}
use Rattle.ladder_tree.specs.declared.element.CounterHow.TheVariants.{Ctu, Ctd, Ctc}
use Rattle.ladder_tree.specs.declared.element.CounterHow.{CounterHow}
use Rattle.ladder_tree.specs.declared.element.CoilMode.TheVariants as mode
use Rattle.ladder_tree.specs.declared.element.CoilMode.{CoilMode}
use Rattle.ladder_tree.specs.declared.element.LeafKind.TheVariants.{Contacts, Coil, Osr, Osf, Short, Open, MasterRelay, Placeholder, Comment, Timer, Counter, Reset, Move, Math, Compare, Shift, Table, ReadAdc, SetPwm, Recv, Send, Persist, Linear, Formatted}
use Rattle.ladder_tree.specs.declared.element.LeafKind.{LeafKind}
use Rattle.ladder_tree.specs.declared.element.MathHow.TheVariants.{Add, Sub, Mul, Div}
use Rattle.ladder_tree.specs.declared.element.MathHow.{MathHow}
use Rattle.ladder_tree.specs.declared.element.Operand.TheVariants.{Var, Num}
use Rattle.ladder_tree.specs.declared.element.Operand.{Operand}
use Rattle.ladder_tree.specs.declared.element.TimerHow.TheVariants.{Ton, Tof, Rto}
use Rattle.ladder_tree.specs.declared.element.TimerHow.{TimerHow}
use Rattle.ld_base.specs.Wrap.{wrap}
use Rattle.ladder_meaning.specs.Bounds.{operand_literals, literals, AreNumbers, SeesNumbers}
use Rattle.ladder_meaning.specs.Device.{receive, send, Went}
use Rattle.ladder_meaning.specs.Element.{Terms, operand, coil, rises, set_where, counter, shifted, looked_up, element}
use Rattle.ladder_meaning.specs.Numbers.{IsNumber, Timed, timed, counted, computed, value_at}
use Rattle.ladder_meaning.specs.Persist.{address_of, saved_number, check_pending, check, load_checked, load, save, persist}
use Rattle.ladder_meaning.specs.State.{Seen, Now, Pending, with_number, with_memory}

-- the numbers and the received byte have 16 bits
pub record Holds (s : Now) : Type 0 where
  pub number : AreNumbers s.kept.number
  pub received : IfSome s.received (λ byte. byte < 256)

fits_number : (n : ℤ) → FitsSigned w16 n → IsNumber n
fits_number (pos k) f = grind (arith, nat_tests, ints, f.sfits)
fits_number (negsuc k) f = and_from (int_le (negsuc 32767) (negsuc k)) (int_le (negsuc k) (pos 32767)) (grind (arith, nat_tests, ints, f.sfits)) refl

wrapped : (n : ℤ) → IsNumber (wrap n)
wrapped n = fits_number (wrap n) (SFits-int_wrap w16 n)

byte_number : (n : ℕ) → n < 256 → IsNumber (pos n)
byte_number n h = grind (arith, nat_tests, h)

either : (b : Bool) (m n : ℤ) → IsNumber m → IsNumber n → IsNumber (cond b m n)
either true m n f g = f
either false m n f g = g

if_holds : (b : Bool) (s t : Now) → Holds t → Holds s → Holds (cond b t s)
if_holds true s t h g = h
if_holds false s t h g = g

number_holds : (s : Now) (name : List ℕ) (n : ℤ) → IsNumber n → Holds s → Holds (with_number s name n)
number_holds s name n f h = record { number = λ m. either (bytes_eq name m) n (s.kept.number m) f (h.number m); received = h.received }

memory_holds : (s : Now) (k : ℕ) (v : Bool) → Holds s → Holds (with_memory s k v)
memory_holds s k v h = record { number = h.number; received = h.received }

set_holds : (b : Bool) (s : Now) (name : List ℕ) (n : ℤ) → IsNumber n → Holds s → Holds (set_where b s name n)
set_holds b s name n f h = if_holds b s (with_number s name n) (number_holds s name n f h) h

coil_holds : (how : CoilMode) (name : List ℕ) (s : Now) (power : Bool) → Holds s → Holds (coil how name s power)
coil_holds mode.Plain name s power h = record { number = h.number; received = h.received }
coil_holds mode.Negated name s power h = record { number = h.number; received = h.received }
coil_holds mode.Set name s power h = if_holds power s _ (record { number = h.number; received = h.received }) h
coil_holds mode.Reset name s power h = if_holds power s _ (record { number = h.number; received = h.received }) h

timed_by : (b : Bool) (x y : Timed) → IsNumber x.number → IsNumber y.number → IsNumber (cond b x y).number
timed_by true x y f g = f
timed_by false x y f g = g

timed_number : (how : TimerHow) (p t : ℤ) (power : Bool) → IsNumber t → IsNumber (timed how p t power).number
timed_number Ton p t true h = timed_by (int_lt t p) _ _ (wrapped _) h
timed_number Ton p t false h = refl
timed_number Tof p t true h = refl
timed_number Tof p t false h = timed_by (int_lt t p) _ _ (wrapped _) h
timed_number Rto p t true h = timed_by (int_lt t p) _ _ (wrapped _) h
timed_number Rto p t false h = h

counted_number : (how : CounterHow) (max n : ℤ) → IsNumber (counted how max n)
counted_number Ctu max n = wrapped _
counted_number Ctd max n = wrapped _
counted_number Ctc max n = either (int_le max n) (pos 0) _ refl (wrapped _)

computed_number : (how : MathHow) (a b : ℤ) → IsNumber (computed how a b)
computed_number Add a b = wrapped _
computed_number Sub a b = wrapped _
computed_number Mul a b = wrapped _
computed_number Div a b = either (int_eq b (pos 0)) (pos 0) _ refl (wrapped _)

operand_number : (s : Now) (x : Operand) → All IsNumber (operand_literals x) → Holds s → IsNumber (operand s x)
operand_number s (Var name) f h = h.number name
operand_number s (Num n) f h = All-get_or IsNumber (n ∷ []) 0 n (omega arith) f

counter_holds : (how : CounterHow) (name : List ℕ) (max : ℤ) (k : ℕ) (s : Now) (power : Bool) → Holds s → Holds (counter how name max k s power).now
counter_holds how name max k s power h =
    memory_holds (set_where (rises s k power) s name (counted how max (s.kept.number name))) k power
    (set_holds (rises s k power) s name _ (counted_number how max _) h)

shifted_holds : (name : List ℕ) (n : ℕ) (s : Now) → Holds s → Holds (shifted name n s)
shifted_holds name zero s h = h
shifted_holds name (suc zero) s h = h
shifted_holds name (suc (suc k)) s h = shifted_holds name (suc k) _ (number_holds s (name ++ decimal (suc k)) _ (h.number (name ++ decimal k)) h)

shift_holds : (b : Bool) (name : List ℕ) (n k : ℕ) (s : Now) (power : Bool) → Holds s → Holds (with_memory (cond b (shifted name n s) s) k power)
shift_holds b name n k s power h = memory_holds (cond b (shifted name n s) s) k power (if_holds b s (shifted name n s) (shifted_holds name n s h) h)

looked_holds : (dest : List ℕ) (s : Now) (o : Option ℤ) → IfSome o IsNumber → Holds s → Holds (looked_up dest s o)
looked_holds dest s None f h = h
looked_holds dest s (Some n) f h = number_holds s dest n f h

value_in : (values : List ℤ) (k : ℕ) → All IsNumber values → IfSome (slice_get values k) IsNumber
value_in [] k f = tt
value_in (x ∷ xs) zero f = All-head IsNumber x xs f
value_in (x ∷ xs) (suc k) f = value_in xs k (All-tail IsNumber x xs f)

value_number : (values : List ℤ) (index : ℤ) → All IsNumber values → IfSome (value_at values index) IsNumber
value_number values (pos k) f = value_in values k f
value_number values (negsuc k) f = tt

receive_holds : (name : List ℕ) (s : Now) (power : Bool) (o : Option ℕ) → IfSome o (λ byte. byte < 256) → Holds s
    → Holds (cond power (receive name s o) (record { now = s; output = false })).now
receive_holds name s false o f h = h
receive_holds name s true None f h = h
receive_holds name s true (Some byte) f h =
    number_holds (record s { received = None }) name (pos byte) (byte_number byte f) (record { number = h.number; received = tt })

send_by : (name : List ℕ) (s t : Now) (b : Bool) → Holds s → Holds t → Holds (cond b s t)
send_by name s t true h g = h
send_by name s t false h g = g

send_holds : (name : List ℕ) (s : Now) (power : Bool) → Holds s
    → Holds (cond {A = Went} power (record { now = send name s; output = (send name s).sending }) (record { now = s; output = s.sending })).now
send_holds name s true h = send_by name s _ s.sending h (record { number = h.number; received = h.received })
send_holds name s false h = h

pending_holds : (s : Now) (o : Option Pending) → Holds s → Holds (check_pending s o).now
pending_holds s None h = h
pending_holds s (Some p) h = record { number = h.number; received = h.received }

checked_by : (s : Now) (b : Bool) → Holds s → Holds (cond b (record { now = s; is_free = false }) (check_pending s s.kept.pending)).now
checked_by s true h = h
checked_by s false h = pending_holds s s.kept.pending h

check_holds : (s : Now) → Holds s → Holds (check s).now
check_holds s h = checked_by s s.writing h

load_by : (address : ℕ) (name : List ℕ) (s : Now) (b : Bool) → Holds s → Holds (load_checked address name (record { now = s; is_free = b }))
load_by address name s true h = let t = number_holds s name (saved_number s.kept address) (wrapped _) h in record { number = t.number; received = t.received }
load_by address name s false h = h

load_holds : (address : ℕ) (name : List ℕ) (s : Now) (b : Bool) → Holds s → Holds (cond b s (load_checked address name (check s)))
load_holds address name s true h = h
load_holds address name s false h = load_by address name (check s).now (check s).is_free (check_holds s h)

save_holds : (address : ℕ) (name : List ℕ) (s : Now) → Holds s → Holds (save address name s)
save_holds address name s h =
    let t = check_holds s h in
    if_holds ((check s).is_free && not (int_eq (saved_number (check s).now.kept address) ((check s).now.kept.number name))) (check s).now _
    (record { number = t.number; received = t.received }) t

persist_holds : (names : List (List ℕ)) (name : List ℕ) (s : Now) (power : Bool) → Holds s → Holds (cond power (persist names name s) s)
persist_holds names name s false h = h
persist_holds names name s true h =
    let a = address_of names name in
    save_holds a name (load a name s) (load_holds a name s (s.kept.loaded name) h)

pub element_holds : (p : Terms) (r : Seen) → SeesNumbers r → (kind : LeafKind) → All IsNumber (literals kind) → (k : ℕ) (s : Now) (power : Bool) → Holds s
    → Holds (element p r kind k s power).now
element_holds p r g (Contacts name neg) f k s power h = h
element_holds p r g (Coil name how) f k s power h = coil_holds how name s power h
element_holds p r g Osr f k s power h = memory_holds s k power h
element_holds p r g Osf f k s power h = memory_holds s k power h
element_holds p r g Short f k s power h = h
element_holds p r g Open f k s power h = h
element_holds p r g MasterRelay f k s power h = record { number = h.number; received = h.received }
element_holds p r g Placeholder f k s power h = h
element_holds p r g (Comment text) f k s power h = h
element_holds p r g (Timer how name delay) f k s power h = number_holds s name _ (timed_number how _ (s.kept.number name) power (h.number name)) h
element_holds p r g (Counter how name max) f k s power h = counter_holds how name max k s power h
element_holds p r g (Reset name) f k s power h = set_holds power s name (pos 0) refl h
element_holds p r g (Move dest src) f k s power h = set_holds power s dest _ (operand_number s src f h) h
element_holds p r g (Math how dest a b) f k s power h = set_holds power s dest _ (computed_number how (operand s a) (operand s b)) h
element_holds p r g (Compare how a b) f k s power h = h
element_holds p r g (Shift name places) f k s power h = shift_holds (rises s k power) name places k s power h
element_holds p r g (Table dest index as_text values) f k s power h =
    if_holds power s (looked_up dest s (value_at values (operand s index))) (looked_holds dest s (value_at values (operand s index))
    (value_number values (operand s index) f) h) h
element_holds p r g (ReadAdc name) f k s power h = set_holds power s name _ (g.analog name) h
element_holds p r g (SetPwm name hz) f k s power h = if_holds power s _ (record { number = h.number; received = h.received }) h
element_holds p r g (Recv name) f k s power h = receive_holds name s power s.received h.received h
element_holds p r g (Send name) f k s power h = send_holds name s power h
element_holds p r g (Persist name) f k s power h = persist_holds p.persistent name s power h
element_holds p r g (Linear dest index points) f k s power h = h
element_holds p r g (Formatted name text) f k s power h = h
