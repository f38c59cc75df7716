-- What is lowered does nothing to the devices.
use Rattle.std.proofs.Common.{◌≡◌, ℕ, zero, suc, Bool, true, false, List, [], ◌∷◌, Option, Some, None, ℤ, refl, ap, ◌∙◌}
use Rattle.std.specs.Prelude.{All, if◌then◌else◌}
use Rattle.std.proofs.lemmas.List.Elements.{All-head, All-tail}
use Rattle.ladder_meaning.specs.Numbers.{value_at}
use Rattle.ladder_meaning.specs.declared.reading.Reading.{Reading}
use Rattle.int_code.specs.Meaning.{Moment, begin, cycle, is_reached, looked_up, run, step, store_after}
use Rattle.int_code.specs.Store as int
use Rattle.int_code.specs.declared.op.BitDest as written
use Rattle.int_code.specs.declared.op.BitDest.TheVariants as opdest
use Rattle.int_code.specs.declared.op.IntOp.{IntOp}
use Rattle.int_code.specs.declared.op.IntOp.TheVariants.{Set, Clr, Cpy, Not, Ifs, Ifc, Iflt, Ifeq, Els, Fi, Lit, Mov, Add, Sub, Inc, Dec, Tab, Mul, Div}
use Rattle.byte_lower.specs.Code.{store_behind}
use Rattle.byte_lower.specs.Lists.{is_built}

bit_only : (t : int.Store) (b : written.BitDest) (x : Bool) → (int.with t b x).devices ≡ t.devices
bit_only t (opdest.B k) x = refl
bit_only t (opdest.Y k) x = refl

number_only : (t : int.Store) (v : ℕ) (x : Option ℤ) → (looked_up t v x).devices ≡ t.devices
number_only t v None = refl
number_only t v (Some n) = refl

op_keeps : (r : Reading) (op : IntOp) (t : int.Store) → is_built op ≡ true → (store_after r op t).devices ≡ t.devices
op_keeps r (Set b) t h = bit_only t b true
op_keeps r (Clr b) t h = bit_only t b false
op_keeps r (Cpy b s) t h = bit_only t b _
op_keeps r (Not b s) t h = bit_only t b _
op_keeps r (Ifs s) t h = refl
op_keeps r (Ifc s) t h = refl
op_keeps r (Iflt w u) t h = refl
op_keeps r (Ifeq w u) t h = refl
op_keeps r Els t h = refl
op_keeps r Fi t h = refl
op_keeps r (Lit v n) t h = refl
op_keeps r (Mov v from) t h = refl
op_keeps r (Add v w u) t h = refl
op_keeps r (Sub v w u) t h = refl
op_keeps r (Mul v w u) t h = refl
op_keeps r (Div v w u) t h = refl
op_keeps r (Inc v) t h = refl
op_keeps r (Dec v) t h = refl
op_keeps r (Tab v w values) t h = number_only t v (value_at values (int.number_of t w))
op_keeps r op t h = absurd (cc)

step_keeps : (b : Bool) (s t : int.Store) → s.devices ≡ t.devices → (if b then s else t).devices ≡ t.devices
step_keeps true s t e = e
step_keeps false s t e = refl

run_keeps : (r : Reading) (ops : List IntOp) (m : Moment) → All (λ op. is_built op ≡ true) ops → (run r ops m).store.devices ≡ m.store.devices
run_keeps r [] m h = refl
run_keeps r (op ∷ ops) m h =
    run_keeps r ops (step r op m) (All-tail (λ x. is_built x ≡ true) op ops h)
    ∙ step_keeps (is_reached op m.ifs) (store_after r op m.store) m.store (op_keeps r op m.store (All-head (λ x. is_built x ≡ true) op ops h))

-- behind each cycle nothing is sent
pub nothing_sent : (ops : List IntOp) (t : int.Store) (rs : List Reading) (k : ℕ) → All (λ op. is_built op ≡ true) ops → t.devices.sent ≡ [] →
    (store_behind ops t rs k).devices.sent ≡ []
nothing_sent ops t rs zero h e = e
nothing_sent ops t [] (suc k) h e = e
nothing_sent ops t (r ∷ rs) (suc k) h e = nothing_sent ops (cycle r ops t).store rs k h (ap (λ d. d.sent) (run_keeps r ops (begin r t) h))
