-- Single steps of the byte machine.
use Rattle.std.proofs.Common.{◌≡◌, ℕ, zero, suc, ◌≤◌, length, arith, List, [], ◌∷◌, Some, None, Bool, true, false, refl, ap, ◌∙◌}
use Rattle.std.specs.Prelude.{slice_get}
use Rattle.chip_tables.specs.Outside.{no_reading}
use Rattle.chip_tables.specs.declared.outside.PinReading.{PinReading}
use Rattle.chip_tables.specs.declared.outside.Poll.TheVariants.{NoPoll}
use Rattle.runs.specs.declared.ask.Ask.TheVariants as ask
use Rattle.runs.specs.Run.{ask_of, reading_ask, device_ask}
use Rattle.byte_code.specs.declared.prim.BytePrim.{BytePrim}
use Rattle.byte_code.specs.declared.prim.Paced.{Paced}
use Rattle.byte_code.specs.declared.store.Store.{Store}
use Rattle.byte_code.specs.declared.state.Bytes.{Bytes}
use Rattle.byte_code.specs.declared.prim.Shape.{Shape}
use Rattle.byte_code.specs.declared.prim.Shape.TheVariants.{AtStart, AtPoll, AtDevice, Names, Jumps, Branches, Calls, Returns, Straight}
use Rattle.byte_code.specs.Table.{shape_of, effect}
use Rattle.byte_code.specs.Machine.{shaped, act, acted, byte_step, asked_in, asked_by}
use Rattle.byte_code.specs.Counts.{Counted, counted_step, count_on}

-- the byte machine's step where a primitive of the shape stands
pub counted_is : (code : List Paced) (c : Counted) (p : Paced) (h : Shape) (ready : Bool) (r : PinReading) → slice_get code c.bytes.place ≡ Some p →
    shape_of p.prim ≡ h → counted_step code c ready r ≡ count_on c.begun (Some (shaped code p.prim h c.bytes (effect p.prim c.bytes.store) ready r))
unfolding counted_step byte_step
counted_is code c p h ready r g e =
    ap (λ o. count_on c.begun (acted code o c.bytes ready r)) g
    ∙ ap (λ x. count_on c.begun (Some (shaped code p.prim x c.bytes (effect p.prim c.bytes.store) ready r))) e

asks_in : (code : List Paced) (begun : List ℕ) (s : Bytes) (d : Store) (q : BytePrim) (h : Shape) →
    reading_ask (count_on begun (Some (shaped code q h s d true no_reading))) (device_ask (count_on begun (Some (shaped code q h s d false no_reading)))) ≡
    asked_in h
asks_in code begun s d q AtStart = refl
asks_in code begun s d q AtPoll = refl
asks_in code begun s d q AtDevice = refl
asks_in code begun s d q (Names l) = refl
asks_in code begun s d q (Jumps l) = refl
asks_in code begun s d q (Branches l) = refl
asks_in code begun s d q (Calls l) = refl
asks_in code begun s d q Returns = refl
asks_in code begun s d q Straight = refl

-- what it asks for there
pub counted_asks : (code : List Paced) (c : Counted) (p : Paced) (h : Shape) → slice_get code c.bytes.place ≡ Some p → shape_of p.prim ≡ h →
    ask_of (counted_step code) c ≡ asked_in h
unfolding ask_of
counted_asks code c p h g e =
    ap (λ o. reading_ask o (device_ask (counted_step code c false no_reading))) (counted_is code c p h true no_reading g e)
    ∙ ap (λ o. reading_ask (count_on c.begun (Some (shaped code p.prim h c.bytes (effect p.prim c.bytes.store) true no_reading))) (device_ask o))
    (counted_is code c p h false no_reading g e)
    ∙ asks_in code c.begun c.bytes (effect p.prim c.bytes.store) p.prim h

plain_in : (code : List Paced) (s : Bytes) (d : Store) (q : BytePrim) (h : Shape) → asked_in h ≡ ask.Nothing →
    (shaped code q h s d false no_reading).poll ≡ NoPoll
plain_in code s d q AtStart e = refl
plain_in code s d q AtPoll e = absurd (cc)
plain_in code s d q AtDevice e = absurd (cc)
plain_in code s d q (Names l) e = refl
plain_in code s d q (Jumps l) e = refl
plain_in code s d q (Branches l) e = refl
plain_in code s d q (Calls l) e = refl
plain_in code s d q Returns e = refl
plain_in code s d q Straight e = refl

pub is_plain : (code : List Paced) (s : Bytes) (q : BytePrim) → asked_by q ≡ ask.Nothing → (act code q s false no_reading).poll ≡ NoPoll
is_plain code s q e = plain_in code s (effect q s.store) q (shape_of q) e

-- where no primitive stands there is no step
pub stops : (code : List Paced) (s : Bytes) (ready : Bool) (r : PinReading) → length code ≤ s.place → byte_step code s ready r ≡ None
unfolding byte_step
stops code s ready r h = ap (λ o. acted code o s ready r) (past code s.place h)
  where
    past : (xs : List Paced) (i : ℕ) → length xs ≤ i → slice_get xs i ≡ None
    past [] i h = refl
    past (x ∷ xs) zero h = absurd (omega (arith, h))
    past (x ∷ xs) (suc i) h = past xs i (omega (arith, h))

-- and where one stands it is what the primitive does
pub steps : (code : List Paced) (s : Bytes) (ready : Bool) (r : PinReading) (p : Paced) → slice_get code s.place ≡ Some p →
    byte_step code s ready r ≡ Some (act code p.prim s ready r)
unfolding byte_step
steps code s ready r p e = ap (λ o. acted code o s ready r) e
