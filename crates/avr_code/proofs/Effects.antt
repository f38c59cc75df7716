-- What each instruction of the code does to the view of a machine.
use Rattle.std.proofs.Common.{◌≡◌, ◌≢◌, ⊎_elim, length, eq-eqb, ℕ, zero, suc, ◌+◌, ◌-◌, ◌/◌, ◌%◌, ◌<◌, ◌≤◌, inl, inr, Bool, true, false, Some, None, refl, sym, ap, ap₂, ◌∙◌, subst, arith, lit<}
use Rattle.std.proofs.Math.ListN.{length-set}
use Rattle.std.proofs.lemmas.Bool.{cases_eq, lt-ltb, le-ltb, le-leb, ltb-true, ne_eqb}
use Rattle.std.specs.Prelude.{◌==◌, ◌&&◌, not, nat_lt, if◌then◌else◌, slice_index, slice_set, bit_and, bit_or, bit_xor}
use Rattle.chip_tables.specs.Bits.{bit_of, as_bit}
use Rattle.byte_code.specs.declared.prim.BitSource.{BitSource}
use Rattle.byte_code.specs.declared.prim.BitSource.TheVariants as bit
use Rattle.byte_code.specs.Store.{with_bit, in_byte}
use Rattle.byte_code.specs.Table.{same}
use Rattle.chip_tables.specs.declared.outside.Env.{Env}
use Rattle.avr_devices.specs.Device.{port_of, with_port, pins}
use Rattle.chip_tables.specs.declared.outside.StuckCause.TheVariants.{PastFlash}
use Rattle.runs.specs.declared.ask.Ask.TheVariants as ask
use Rattle.avr_devices.specs.Part.{mega16}
use Rattle.avr_mach.specs.declared.insn.AvrInsn.{AvrInsn}
use Rattle.avr_mach.specs.declared.insn.AvrInsn.TheVariants as insn
use Rattle.avr_mach.specs.declared.state.AvrState.{AvrState}
use Rattle.avr_mach.specs.declared.state.Flow.TheVariants.{Next, Skip, To}
use Rattle.avr_mach.specs.Arithmetic.{with_sum, with_difference, difference, with_compared, with_result, with_carry, with_shifted}
use Rattle.avr_mach.specs.Asks.{insn_ask, lds_ask, bit_ask}
use Rattle.avr_mach.specs.Control.{branch, skip_if, obstacle, long_obstacle}
use Rattle.avr_mach.specs.Exec.{exec}
use Rattle.avr_mach.specs.Access.{loaded, stored, skip_where}
use Rattle.avr_mach.specs.Memory.{bit_read, lds_read, lds_register, ram_byte, with_ram, io_written}
use Rattle.avr_mach.specs.State.{after, act, reg, with_reg, flag, with_flag}
use Rattle.avr_mach.specs.Transfer.{stored_at}
use Rattle.avr_devices.specs.DevicePolls.{answer}
use Rattle.avr_devices.specs.DeviceWrites.{sent_to}
use Rattle.avr_devices.specs.IoSpace.{register_at, register_in}
use Rattle.chip_tables.specs.declared.outside.Poll.TheVariants.{NoPoll}
use Rattle.avr_mach.specs.Words.{size_of}
use Rattle.avr_code.specs.Code.{Piece, Plain, Loads, Stores, Fetches, Gives, Latches, Skips, Mixes, insn_of, skip_of, io_skip}
use Rattle.avr_code.specs.Stands.{is_work, IsHeld, IsCell}
use Rattle.avr_code.proofs.View.{View, see, put, changed, bare, Sees, sees_core, sees_put, set_index}

pub data Kind : Type 0 where
  Straight : (effect : View → View) (cycles : ℕ) → Kind
  SkipIf : (test : View → Bool) → Kind
  Branch : (test : View → Bool) (k : ℕ) → Kind
  Forward : (k : ℕ) → Kind
  Jumps : (place cycles : ℕ) → Kind
  Other : Kind

-- the rest of the machine after an operation that also writes a register
abbrev pub keeping : (AvrState → AvrState) → AvrState → AvrState
keeping f c = record (f c) { regs = c.regs }

-- a register takes what an operation leaves, and the flags are those of the operation
abbrev pub result : View → (AvrState → AvrState) → ℕ → ℕ → View
result v f d x = put (record v { core = keeping f v.core }) d x

abbrev pub insn_kind : AvrInsn → Kind
insn_kind (insn.Add d r) = Straight (λ v. result v (λ c. with_sum c d (see v d) (see v r) 0) d ((see v d + see v r + 0) % 256)) 1
insn_kind (insn.Adc d r) =
    Straight (λ v. result v (λ c. with_sum c d (see v d) (see v r) (as_bit v.core.carry)) d ((see v d + see v r + as_bit v.core.carry) % 256)) 1
insn_kind (insn.Sub d r) =
    Straight (λ v. result v (λ c. with_difference c d (see v d) (see v r) 0 true) d (difference (see v d) (see v r) 0)) 1
insn_kind (insn.Sbc d r) =
    Straight (λ v. result v (λ c. with_difference c d (see v d) (see v r) (as_bit v.core.carry) v.core.zero) d
    (difference (see v d) (see v r) (as_bit v.core.carry))) 1
insn_kind (insn.Cp d r) = Straight (λ v. record v { core = with_compared v.core (see v d) (see v r) 0 true }) 1
insn_kind (insn.Cpc d r) = Straight (λ v. record v { core = with_compared v.core (see v d) (see v r) (as_bit v.core.carry) v.core.zero }) 1
insn_kind (insn.Cpi d k) = Straight (λ v. record v { core = with_compared v.core (see v d) k 0 true }) 1
insn_kind (insn.And d r) = Straight (λ v. result v (λ c. with_result c d (bit_and (see v d) (see v r)) false) d (bit_and (see v d) (see v r))) 1
insn_kind (insn.Eor d r) = Straight (λ v. result v (λ c. with_result c d (bit_xor (see v d) (see v r)) false) d (bit_xor (see v d) (see v r))) 1
insn_kind (insn.Or d r) = Straight (λ v. result v (λ c. with_result c d (bit_or (see v d) (see v r)) false) d (bit_or (see v d) (see v r))) 1
insn_kind (insn.Mov d r) = Straight (λ v. put v d (see v r)) 1
insn_kind (insn.Ldi d k) = Straight (λ v. put v d k) 1
insn_kind (insn.Com d) = Straight (λ v. result v (λ c. with_carry (with_result c d (255 - see v d) false) true) d (255 - see v d)) 1
insn_kind (insn.Inc d) = Straight (λ v. result v (λ c. with_result c d ((see v d + 1) % 256) (see v d == 127)) d ((see v d + 1) % 256)) 1
insn_kind (insn.Dec d) = Straight (λ v. result v (λ c. with_result c d ((see v d + 255) % 256) (see v d == 128)) d ((see v d + 255) % 256)) 1
insn_kind (insn.Lsr d) = Straight (λ v. result v (λ c. with_shifted c d (see v d) (see v d / 2)) d (see v d / 2)) 1
insn_kind (insn.Brbs s k) = Branch (λ v. flag v.core s) k
insn_kind (insn.Brbc s k) = Branch (λ v. not (flag v.core s)) k
insn_kind (insn.Bset s) = Straight (λ v. record v { core = record v.core { carry = true } }) 1
insn_kind (insn.Sbrc r b) = SkipIf (λ v. not (bit_of (see v r) b))
insn_kind (insn.Sbrs r b) = SkipIf (λ v. bit_of (see v r) b)
insn_kind (insn.Jmp place) = Jumps place 3
insn_kind (insn.Ror d) = Other
insn_kind (insn.Bclr s) = Other
insn_kind (insn.Rjmp k) = Forward k
insn_kind (insn.Rcall k) = Other
insn_kind (insn.Call place) = Other
insn_kind insn.Ret = Other
insn_kind (insn.In d a) = Other
insn_kind (insn.Out a r) = Straight (λ v. record v { core = io_written v.core (register_in mega16 a) (see v r) 1 }) 1
insn_kind (insn.Cbi a b) = Other
insn_kind (insn.Sbi a b) = Other
insn_kind (insn.Sbic a b) = Other
insn_kind (insn.Sbis a b) = Other
insn_kind (insn.Lds d address) = Other
insn_kind (insn.Sts address r) = Other
insn_kind (insn.Ldd d q) = Other
insn_kind (insn.Std q r) = Other
insn_kind (insn.St r) = Other
insn_kind insn.Nop = Other

-- the byte of a bit
abbrev pub fetched : View → BitSource → ℕ
fetched v (bit.Cell a b) = v.cells a
fetched v (bit.Level port b) = pins (port_of v.core.devices port) (slice_index v.core.devices.reading.levels port)
fetched v (bit.Latch port b) = (port_of v.core.devices port).latch

-- whether a bit is 1 where it is tested
abbrev pub tested : View → BitSource → Bool
tested v (bit.Cell a b) = bit_of (if nat_lt a 32 then see v a else v.work 18) (in_byte b)
tested v (bit.Level port b) = bit_of (pins (port_of v.core.devices port) (slice_index v.core.devices.reading.levels port)) (in_byte b)
tested v (bit.Latch port b) = bit_of (port_of v.core.devices port).latch (in_byte b)

-- all bits of both, or those of both
abbrev pub mixed : Bool → ℕ → ℕ → ℕ
mixed true = bit_or
mixed false = bit_and

-- a bit of a latch becomes so
abbrev pub latched : AvrState → ℕ → ℕ → Bool → AvrState
latched c port b x =
    record c { devices = with_port c.devices port (record (port_of c.devices port) { latch = with_bit (port_of c.devices port).latch b x }) }

abbrev pub kind_of : Piece → Kind
kind_of (Plain i) = insn_kind i
kind_of (Loads r a) = Straight (λ v. put v r (v.cells a)) (size_of (insn_of (Loads r a)))
kind_of (Stores a r) = Straight (λ v. record v { cells = changed v.cells a (see v r) }) (size_of (insn_of (Stores a r)))
kind_of (Fetches from) = Straight (λ v. put v 18 (fetched v from)) (size_of (insn_of (Fetches from)))
kind_of (Gives a r) = Straight (λ v. record v { cells = changed v.cells a (see v r) }) 1
kind_of (Latches port b x) = Straight (λ v. record v { core = latched v.core port b x }) 2
kind_of (Skips from is) = SkipIf (λ v. same (tested v from) is)
kind_of (Mixes d r x) = Straight (λ v. result v (λ c. with_result c d (mixed x (see v d) (see v r)) false) d (mixed x (see v d) (see v r))) 1

-- an I/O register whose writing changes neither registers nor SRAM and sends nothing
pub record IsQuiet (a : ℕ) : Type 0 where
  pub regs : (m : AvrState) (x : ℕ) → (io_written m (register_in mega16 a) x 1).regs ≡ m.regs
  pub sram : (m : AvrState) (x : ℕ) → (io_written m (register_in mega16 a) x 1).sram ≡ m.sram
  pub bare : (m : AvrState) (x : ℕ) → bare (io_written m (register_in mega16 a) x 1) ≡ io_written (bare m) (register_in mega16 a) x 1
  pub sends : (m : AvrState) (x : ℕ) → sent_to m.devices (register_in mega16 a) x ≡ None
  pub asks : (m : AvrState) (r : ℕ) → insn_ask (insn.Out a r) m.devices ≡ ask.Nothing

-- registers are below 32, places are in flash, and cells are there
abbrev pub InsnFits : AvrInsn → Type 0
InsnFits (insn.Add d r) = (d < 32) × (r < 32)
InsnFits (insn.Adc d r) = (d < 32) × (r < 32)
InsnFits (insn.Sub d r) = (d < 32) × (r < 32)
InsnFits (insn.Sbc d r) = (d < 32) × (r < 32)
InsnFits (insn.Cp d r) = (d < 32) × (r < 32)
InsnFits (insn.Cpc d r) = (d < 32) × (r < 32)
InsnFits (insn.Cpi d k) = (16 ≤ d) × (d < 32) × (k < 256)
InsnFits (insn.And d r) = (d < 32) × (r < 32)
InsnFits (insn.Eor d r) = (d < 32) × (r < 32)
InsnFits (insn.Or d r) = (d < 32) × (r < 32)
InsnFits (insn.Mov d r) = (d < 32) × (r < 32)
InsnFits (insn.Ldi d k) = (16 ≤ d) × (d < 32) × (k < 256)
InsnFits (insn.Com d) = d < 32
InsnFits (insn.Inc d) = d < 32
InsnFits (insn.Dec d) = d < 32
InsnFits (insn.Lsr d) = d < 32
InsnFits (insn.Brbs s k) = (s < 8) × (k < 64)
InsnFits (insn.Brbc s k) = (s < 8) × (k < 64)
InsnFits (insn.Bset s) = s ≡ 0
InsnFits (insn.Sbrc r b) = (r < 32) × (b < 8)
InsnFits (insn.Sbrs r b) = (r < 32) × (b < 8)
InsnFits (insn.Jmp place) = place < 8192
InsnFits (insn.Rjmp k) = k < 64
InsnFits (insn.Out a r) = (r < 32) × (a < 64) × IsQuiet a
InsnFits i = ⊥

abbrev pub FetchFits : BitSource → Type 0
FetchFits (bit.Cell a b) = IsHeld a
FetchFits (bit.Level port b) = port < 4
FetchFits (bit.Latch port b) = port < 4

-- a register, or the SRAM; and a port of the four
abbrev pub TestFits : BitSource → Type 0
TestFits (bit.Cell a b) = Unit {0}
TestFits (bit.Level port b) = port < 4
TestFits (bit.Latch port b) = port < 4

abbrev pub PieceFits : Piece → Type 0
PieceFits (Plain i) = InsnFits i
PieceFits (Loads r a) = (r < 32) × IsCell a
PieceFits (Stores a r) = (r < 32) × IsCell a
PieceFits (Fetches from) = FetchFits from
PieceFits (Gives a r) = (r < 32) × (a < 32) × (is_work a ≡ false)
PieceFits (Latches port b x) = (port < 4) × (b < 8)
PieceFits (Skips from is) = TestFits from
PieceFits (Mixes d r x) = (d < 32) × (r < 32)

pub held : (a : ℕ) → IsCell a → IsHeld a
held a (inl low) = inl (low.0, low.1)
held a (inr high) = inr high

-- a branch is one word, and goes forward
abbrev pub IsNear : AvrInsn → Kind → Type 0
IsNear i (Branch test k) = (size_of i ≡ 1) × (k < 64)
IsNear i (Forward k) = (size_of i ≡ 1) × (k < 64)
IsNear i (Straight effect cycles) = Unit {0}
IsNear i (SkipIf test) = Unit {0}
IsNear i (Jumps place cycles) = Unit {0}
IsNear i Other = Unit {0}

insn_near : (i : AvrInsn) → InsnFits i → IsNear i (insn_kind i)
insn_near (insn.Add d r) fit = tt
insn_near (insn.Adc d r) fit = tt
insn_near (insn.Sub d r) fit = tt
insn_near (insn.Sbc d r) fit = tt
insn_near (insn.Cp d r) fit = tt
insn_near (insn.Cpc d r) fit = tt
insn_near (insn.And d r) fit = tt
insn_near (insn.Eor d r) fit = tt
insn_near (insn.Or d r) fit = tt
insn_near (insn.Mov d r) fit = tt
insn_near (insn.Cpi d k) fit = tt
insn_near (insn.Ldi d k) fit = tt
insn_near (insn.Com d) fit = tt
insn_near (insn.Inc d) fit = tt
insn_near (insn.Lsr d) fit = tt
insn_near (insn.Dec d) fit = tt
insn_near (insn.Bset s) fit = tt
insn_near (insn.Sbrc r b) fit = tt
insn_near (insn.Sbrs r b) fit = tt
insn_near (insn.Jmp place) fit = tt
insn_near (insn.Brbs s k) fit = (refl, fit.1)
insn_near (insn.Brbc s k) fit = (refl, fit.1)
insn_near (insn.Ror d) fit = tt
insn_near (insn.Bclr s) fit = tt
insn_near (insn.Rjmp k) fit = (refl, fit)
insn_near (insn.Rcall k) fit = tt
insn_near (insn.Call place) fit = tt
insn_near insn.Ret fit = tt
insn_near (insn.In d a) fit = tt
insn_near (insn.Out a r) fit = tt
insn_near (insn.Cbi a b) fit = tt
insn_near (insn.Sbi a b) fit = tt
insn_near (insn.Sbic a b) fit = tt
insn_near (insn.Sbis a b) fit = tt
insn_near (insn.Lds d address) fit = tt
insn_near (insn.Sts address r) fit = tt
insn_near (insn.Ldd d q) fit = tt
insn_near (insn.Std q r) fit = tt
insn_near (insn.St r) fit = tt
insn_near insn.Nop fit = tt

pub is_near : (p : Piece) → PieceFits p → IsNear (insn_of p) (kind_of p)
is_near (Plain i) fit = insn_near i fit
is_near (Loads r a) fit = tt
is_near (Stores a r) fit = tt
is_near (Fetches from) fit = tt
is_near (Gives a r) fit = tt
is_near (Latches port b x) fit = tt
is_near (Skips from is) fit = tt
is_near (Mixes d r x) fit = tt

-- what an instruction does as its kind says, wherever it stands
abbrev pub Acts : AvrInsn → Kind → Env → AvrState → View → Type 0
Acts i (Straight effect cycles) env m v = (m' : AvrState) × (exec mega16 env i m.place m ≡ after m' Next cycles) × Sees m' (effect v)
Acts i (SkipIf test) env m v = exec mega16 env i m.place m ≡ skip_if m (test v)
Acts i (Branch test k) env m v = exec mega16 env i m.place m ≡ branch mega16 m (test v) m.place k
Acts i (Forward k) env m v = exec mega16 env i m.place m ≡ branch mega16 m true m.place k
Acts i (Jumps place cycles) env m v = exec mega16 env i m.place m ≡ after m (To place) cycles
Acts i Other env m v = Unit {0}

pub record Does (i : AvrInsn) (kind : Kind) (env : Env) (m : AvrState) (v : View) : Type 0 where
  pub free : obstacle mega16 i m ≡ None
  pub asks : insn_ask i m.devices ≡ ask.Nothing
  pub acts : Acts i kind env m v

pub past_ports : (k : ℕ) → suc (suc (suc (suc k))) < 4 → ⊥
past_ports k low = omega (arith, low)

-- what is put into a cell
pub cell_put : (v : View) (a x : ℕ) → is_work a ≡ false → put v a x ≡ record v { cells = changed v.cells a x }
cell_put v a x free = ap (λ b. if b then record v { work = changed v.work a x } else record v { cells = changed v.cells a x }) free

module _ (env : Env) (m : AvrState) (v : View) (h : Sees m v) where
  same_carry : m.carry ≡ v.core.carry
  same_carry = ap (λ (c : AvrState). c.carry) h.core

  same_zero : m.zero ≡ v.core.zero
  same_zero = ap (λ (c : AvrState). c.zero) h.core

  -- something of two registers, the carry and the zero flag
  of_both : {X : Type 0} (d r : ℕ) (f : ℕ → ℕ → Bool → Bool → X) → d < 32 → r < 32 →
      f (reg m d) (reg m r) m.carry m.zero ≡ f (see v d) (see v r) v.core.carry v.core.zero
  of_both d r f fd fr =
      ap₂ (λ a b. f a b m.carry m.zero) (h.file d fd) (h.file r fr) ∙ ap₂ (λ c z. f (see v d) (see v r) c z) same_carry same_zero

  -- an operation that writes a register
  alu : (d r : ℕ) (f : ℕ → ℕ → Bool → Bool → AvrState → AvrState) (x : ℕ → ℕ → Bool → ℕ) → d < 32 → r < 32 →
      ((a b : ℕ) (c z : Bool) → (keeping (f a b c z) m).sram ≡ m.sram) →
      ((a b : ℕ) (c z : Bool) → bare (keeping (f a b c z) m) ≡ keeping (f a b c z) (bare m)) →
      (m' : AvrState)
      × (after (with_reg (keeping (f (reg m d) (reg m r) m.carry m.zero) m) d (x (reg m d) (reg m r) m.carry)) Next 1 ≡ after m' Next 1)
      × Sees m' (result v (f (see v d) (see v r) v.core.carry v.core.zero) d (x (see v d) (see v r) v.core.carry))
  alu d r f x fd fr ram same = (
    with_reg (keeping (f (see v d) (see v r) v.core.carry v.core.zero) m) d (x (see v d) (see v r) v.core.carry),
    of_both d r (λ a b c z. after (with_reg (keeping (f a b c z) m) d (x a b c)) Next 1) fd fr,
    sees_put _ _ d _ fd (sees_core m v (keeping (f (see v d) (see v r) v.core.carry v.core.zero)) refl (ram _ _ _ _) (same _ _ _ _) h),
  )

  -- an operation that leaves only flags
  flags : (d r : ℕ) (f : ℕ → ℕ → Bool → Bool → AvrState → AvrState) → d < 32 → r < 32 →
      ((a b : ℕ) (c z : Bool) → (f a b c z m).regs ≡ m.regs) → ((a b : ℕ) (c z : Bool) → (f a b c z m).sram ≡ m.sram) →
      ((a b : ℕ) (c z : Bool) → bare (f a b c z m) ≡ f a b c z (bare m)) →
      (m' : AvrState)
      × (after (f (reg m d) (reg m r) m.carry m.zero m) Next 1 ≡ after m' Next 1)
      × Sees m' (record v { core = f (see v d) (see v r) v.core.carry v.core.zero v.core })
  flags d r f fd fr regs ram same = (
    f (see v d) (see v r) v.core.carry v.core.zero m,
    of_both d r (λ a b c z. after (f a b c z m) Next 1) fd fr,
    sees_core m v (f (see v d) (see v r) v.core.carry v.core.zero) (regs _ _ _ _) (ram _ _ _ _) (same _ _ _ _) h,
  )

  -- a register takes a byte that is known
  takes : (d x y : ℕ) → d < 32 → x ≡ y → (m' : AvrState) × (after (with_reg m d x) Next 1 ≡ after m' Next 1) × Sees m' (put v d y)
  takes d x y fd e = (with_reg m d y, ap (λ n. after (with_reg m d n) Next 1) e, sees_put m v d y fd h)

  abbrev Ready : AvrInsn → Type 0
  Ready i = m.place + size_of i ≤ 8192

  far_free : (place : ℕ) → place < 8192 → m.place + 2 ≤ 8192 → obstacle mega16 (insn.Jmp place) m ≡ None
  far_free place low inside =
      ap (λ b. if b && nat_lt place 65536 then None else Some PastFlash) (lt-ltb (m.place + 1) 8192 (omega (arith, inside)))
      ∙ ap (λ b. if b then None else Some PastFlash) (lt-ltb place 65536 (omega (arith, low)))

  -- RJMP goes forward like a branch
  forward : (k : ℕ) → k < 64 → exec mega16 env (insn.Rjmp k) m.place m ≡ branch mega16 m true m.place k
  forward k low =
      ap (λ b. after m (To (if b then (m.place + 1 + k) % 8192 else (m.place + 1 + k + 4096) % 8192)) 2) (lt-ltb k 2048 (omega (arith, low)))
      ∙ sym (ap (λ b. after m (To (if b then (m.place + 1 + k) % 8192 else (m.place + 1 + k + 8064) % 8192)) 2) (lt-ltb k 64 low))

  pub does : (i : AvrInsn) → InsnFits i → Ready i → Does i (insn_kind i) env m v
  does (insn.Add d r) fit inside = record {
    free = refl;
    asks = refl;
    acts = alu d r (λ a b c z s. with_sum s d a b 0) (λ a b c. (a + b + 0) % 256) fit.0 fit.1 (λ a b c z. refl) (λ a b c z. refl);
  }
  does (insn.Adc d r) fit inside = record {
    free = refl;
    asks = refl;
    acts = alu d r (λ a b c z s. with_sum s d a b (as_bit c)) (λ a b c. (a + b + as_bit c) % 256) fit.0 fit.1 (λ a b c z. refl) (λ a b c z. refl);
  }
  does (insn.Sub d r) fit inside = record {
    free = refl;
    asks = refl;
    acts = alu d r (λ a b c z s. with_difference s d a b 0 true) (λ a b c. difference a b 0) fit.0 fit.1 (λ a b c z. refl) (λ a b c z. refl);
  }
  does (insn.Sbc d r) fit inside = record {
    free = refl;
    asks = refl;
    acts = alu d r (λ a b c z s. with_difference s d a b (as_bit c) z) (λ a b c. difference a b (as_bit c)) fit.0 fit.1 (λ a b c z. refl) (λ a b c z. refl);
  }
  does (insn.Cp d r) fit inside = record {
    free = refl;
    asks = refl;
    acts = flags d r (λ a b c z s. with_compared s a b 0 true) fit.0 fit.1 (λ a b c z. refl) (λ a b c z. refl) (λ a b c z. refl);
  }
  does (insn.Cpc d r) fit inside = record {
    free = refl;
    asks = refl;
    acts = flags d r (λ a b c z s. with_compared s a b (as_bit c) z) fit.0 fit.1 (λ a b c z. refl) (λ a b c z. refl) (λ a b c z. refl);
  }
  does (insn.Cpi d k) fit inside = record {
    free = refl;
    asks = refl;
    acts = flags d d (λ a b c z s. with_compared s a k 0 true) fit.1 fit.1 (λ a b c z. refl) (λ a b c z. refl) (λ a b c z. refl);
  }
  does (insn.And d r) fit inside = record {
    free = refl;
    asks = refl;
    acts = alu d r (λ a b c z s. with_result s d (bit_and a b) false) (λ a b c. bit_and a b) fit.0 fit.1 (λ a b c z. refl) (λ a b c z. refl);
  }
  does (insn.Eor d r) fit inside = record {
    free = refl;
    asks = refl;
    acts = alu d r (λ a b c z s. with_result s d (bit_xor a b) false) (λ a b c. bit_xor a b) fit.0 fit.1 (λ a b c z. refl) (λ a b c z. refl);
  }
  does (insn.Or d r) fit inside = record {
    free = refl;
    asks = refl;
    acts = alu d r (λ a b c z s. with_result s d (bit_or a b) false) (λ a b c. bit_or a b) fit.0 fit.1 (λ a b c z. refl) (λ a b c z. refl);
  }
  does (insn.Com d) fit inside = record {
    free = refl;
    asks = refl;
    acts = alu d d (λ a b c z s. with_carry (with_result s d (255 - a) false) true) (λ a b c. 255 - a) fit fit (λ a b c z. refl) (λ a b c z. refl);
  }
  does (insn.Inc d) fit inside = record {
    free = refl;
    asks = refl;
    acts = alu d d (λ a b c z s. with_result s d ((a + 1) % 256) (a == 127)) (λ a b c. (a + 1) % 256) fit fit (λ a b c z. refl) (λ a b c z. refl);
  }
  does (insn.Dec d) fit inside = record {
    free = refl;
    asks = refl;
    acts = alu d d (λ a b c z s. with_result s d ((a + 255) % 256) (a == 128)) (λ a b c. (a + 255) % 256) fit fit (λ a b c z. refl) (λ a b c z. refl);
  }
  does (insn.Lsr d) fit inside = record {
    free = refl;
    asks = refl;
    acts = alu d d (λ a b c z s. with_shifted s d a (a / 2)) (λ a b c. a / 2) fit fit (λ a b c z. refl) (λ a b c z. refl);
  }
  does (insn.Mov d r) fit inside = record { free = refl; asks = refl; acts = takes d (reg m r) (see v r) fit.0 (h.file r fit.1) }
  does (insn.Ldi d k) fit inside = record { free = refl; asks = refl; acts = takes d k k fit.1 refl }
  does (insn.Brbs s k) fit inside = record { free = refl; asks = refl; acts = ap (λ (c : AvrState). branch mega16 m (flag c s) m.place k) h.core }
  does (insn.Brbc s k) fit inside = record { free = refl; asks = refl; acts = ap (λ (c : AvrState). branch mega16 m (not (flag c s)) m.place k) h.core }
  does (insn.Bset s) fit inside = record {
    free = refl;
    asks = refl;
    acts = (record m { carry = true }, ap (λ n. after (with_flag m n true) Next 1) fit, sees_core m v (λ c. record c { carry = true }) refl refl refl h);
  }
  does (insn.Sbrc r b) fit inside = record { free = refl; asks = refl; acts = ap (λ n. skip_if m (not (bit_of n b))) (h.file r fit.0) }
  does (insn.Sbrs r b) fit inside = record { free = refl; asks = refl; acts = ap (λ n. skip_if m (bit_of n b)) (h.file r fit.0) }
  does (insn.Jmp place) fit inside = record { free = far_free place fit inside; asks = refl; acts = refl }
  does (insn.Ror d) fit inside = absurd fit
  does (insn.Bclr s) fit inside = absurd fit
  does (insn.Rjmp k) fit inside = record { free = refl; asks = refl; acts = forward k fit }
  does (insn.Rcall k) fit inside = absurd fit
  does (insn.Call place) fit inside = absurd fit
  does insn.Ret fit inside = absurd fit
  does (insn.In d a) fit inside = absurd fit
  does (insn.Out a r) fit inside = record {
    free = refl;
    asks = fit.2.asks m r;
    acts = (
      io_written m (register_in mega16 a) (see v r) 1,
      ap (λ x. stored m (register_in mega16 a) x 1) (h.file r fit.0)
          ∙ ap (λ o. record { state = io_written m (register_in mega16 a) (see v r) 1; acted = act Next 1 NoPoll o }) (fit.2.sends m (see v r)),
      sees_core m v (λ c. io_written c (register_in mega16 a) (see v r) 1) (fit.2.regs m (see v r)) (fit.2.sram m (see v r)) (fit.2.bare m (see v r)) h,
    );
  }
  does (insn.Cbi a b) fit inside = absurd fit
  does (insn.Sbi a b) fit inside = absurd fit
  does (insn.Sbic a b) fit inside = absurd fit
  does (insn.Sbis a b) fit inside = absurd fit
  does (insn.Lds d address) fit inside = absurd fit
  does (insn.Sts address r) fit inside = absurd fit
  does (insn.Ldd d q) fit inside = absurd fit
  does (insn.Std q r) fit inside = absurd fit
  does (insn.St r) fit inside = absurd fit
  does insn.Nop fit inside = absurd fit

  cell_seen : (a : ℕ) → is_work a ≡ false → see v a ≡ v.cells a
  cell_seen a free = ap (λ b. if b then v.work a else v.cells a) free

  put_cell : (a x : ℕ) → is_work a ≡ false → put v a x ≡ record v { cells = changed v.cells a x }
  put_cell a x free = cell_put v a x free

  long_free : m.place + 2 ≤ 8192 → long_obstacle mega16 m ≡ None
  long_free inside = ap (λ b. if b then None else Some PastFlash) (lt-ltb (m.place + 1) 8192 (omega (arith, inside)))

  -- a byte of the SRAM is read
  lds_reads : (a : ℕ) → 96 ≤ a → a < 1120 → lds_read mega16 env m a ≡ record { state = m; answer = answer (v.cells a) NoPoll }
  lds_reads a lo hi =
      ap (λ b. if b then record { state = m; answer = answer (reg m a) NoPoll } else if nat_lt a 96 then lds_register env m (register_in mega16 (a - 32)) else
      record { state = m; answer = answer (ram_byte m a) NoPoll }) (le-ltb a 32 (omega (arith, lo)))
      ∙ ap (λ b. if b then lds_register env m (register_in mega16 (a - 32)) else record { state = m; answer = answer (ram_byte m a) NoPoll }) (le-ltb a 96 lo)
      ∙ ap (λ x. record { state = m; answer = answer x NoPoll })
      (ap (λ b. if b && nat_lt a 1120 then slice_index m.sram (a - 96) else 0) (le-leb 96 a lo)
      ∙ ap (λ b. if b then slice_index m.sram (a - 96) else 0) (lt-ltb a 1120 hi)
      ∙ h.ram a lo hi)

  lds_asks : (r a : ℕ) → 96 ≤ a → insn_ask (insn.Lds r a) m.devices ≡ ask.Nothing
  lds_asks r a lo =
      ap (λ b. if b then ask.Nothing else if nat_lt a 96 then lds_ask m.devices (register_at (a - 32)) else ask.Nothing) (le-ltb a 32 (omega (arith, lo)))
      ∙ ap (λ b. if b then lds_ask m.devices (register_at (a - 32)) else ask.Nothing) (le-ltb a 96 lo)

  loads : (r a : ℕ) → r < 32 → IsHeld a → m.place + size_of (insn_of (Loads r a)) ≤ 8192 → Does (insn_of (Loads r a)) (kind_of (Loads r a)) env m v
  loads r a fr (inl low) inside = subst (λ b. Does (if b then insn.Mov r a else insn.Lds r a)
      (Straight (λ v. put v r (v.cells a)) (size_of (if b then insn.Mov r a else insn.Lds r a))) env m v) (sym (lt-ltb a 32 low.0))
      (record { free = refl; asks = refl; acts = takes r (reg m a) (v.cells a) fr (h.file a low.0 ∙ cell_seen a low.1) })
  loads r a fr (inr high) inside =
      let far = le-ltb a 32 (omega (arith, high.0)) in
      let room : m.place + 2 ≤ 8192 = subst (λ b. m.place + size_of (if b then insn.Mov r a else insn.Lds r a) ≤ 8192) far inside in
      subst (λ b. Does (if b then insn.Mov r a else insn.Lds r a)
      (Straight (λ v. put v r (v.cells a)) (size_of (if b then insn.Mov r a else insn.Lds r a))) env m v) (sym far)
      (record {
        free = long_free room;
        asks = lds_asks r a high.0;
        acts = (
          with_reg m r (v.cells a),
          ap (λ got. loaded got r 2) (lds_reads a high.0 (omega (arith, high.1))),
          sees_put m v r (v.cells a) fr h,
        );
      })

  ram_taken : (a x : ℕ) → 96 ≤ a → a < 1120 → with_ram m a x ≡ record m { sram = slice_set m.sram (a - 96) x }
  ram_taken a x lo hi =
      ap (λ b. if b && nat_lt a 1120 then record m { sram = slice_set m.sram (a - 96) x } else m) (le-leb 96 a lo)
      ∙ ap (λ b. if b then record m { sram = slice_set m.sram (a - 96) x } else m) (lt-ltb a 1120 hi)

  pub sts_writes : (a x : ℕ) → 96 ≤ a → a < 1120 → stored_at mega16 m a x ≡ after (record m { sram = slice_set m.sram (a - 96) x }) Next 2
  sts_writes a x lo hi =
      ap₂ (λ b c. record {
        state = if b then with_reg m a x else if c then io_written m (register_in mega16 (a - 32)) x 2 else with_ram m a x;
        acted = act Next 2 NoPoll (if b then None else if c then sent_to m.devices (register_in mega16 (a - 32)) x else None);
      }) (le-ltb a 32 (omega (arith, lo))) (le-ltb a 96 lo)
      ∙ ap (λ s. after s Next 2) (ram_taken a x lo hi)

  pub sees_ram : (a x : ℕ) → 96 ≤ a → a < 1120 → Sees (record m { sram = slice_set m.sram (a - 96) x }) (record v { cells = changed v.cells a x })
  sees_ram a x lo hi =
      let within : a - 96 < length m.sram = omega (arith, lo, hi, h.sram) in
      record {
        regs = h.regs;
        sram = length-set m.sram (a - 96) x ∙ h.sram;
        core = h.core;
        file = λ r low. h.file r low ∙ sym (ap (λ y. if is_work r then v.work r else y)
            (ap (λ b. if b then x else v.cells r) (ne_eqb r a (λ e. omega (arith, e, low, lo)))));
        ram = λ b blo bhi. set_index m.sram (a - 96) x (b - 96) within ∙ ap (λ y. if (b - 96) == (a - 96) then x else y) (h.ram b blo bhi)
            ∙ ap (λ t. if t then x else v.cells b) (same_test a b lo blo);
      }
    where
      same_test : (a b : ℕ) → 96 ≤ a → 96 ≤ b → ((b - 96) == (a - 96)) ≡ (b == a)
      same_test a b la lb = ⊎_elim
          (λ (e : b ≡ a). eq-eqb (b - 96) (a - 96) (omega (arith, e)) ∙ sym (eq-eqb b a e))
          (λ (ne : b ≢ a). ne_eqb (b - 96) (a - 96) (λ q. ne (omega (arith, q, la, lb))) ∙ sym (ne_eqb b a ne)) (cases_eq b a)

  stores : (a r : ℕ) → r < 32 → IsHeld a → m.place + size_of (insn_of (Stores a r)) ≤ 8192 → Does (insn_of (Stores a r)) (kind_of (Stores a r)) env m v
  stores a r fr (inl low) inside = subst (λ b. Does (if b then insn.Mov a r else insn.Sts a r)
      (Straight (λ v. record v { cells = changed v.cells a (see v r) }) (size_of (if b then insn.Mov a r else insn.Sts a r))) env m v) (sym (lt-ltb a 32
      low.0))
      (record {
        free = refl;
        asks = refl;
        acts = (
          with_reg m a (see v r),
          ap (λ n. after (with_reg m a n) Next 1) (h.file r fr),
          subst (λ w. Sees (with_reg m a (see v r)) w) (put_cell a (see v r) low.1) (sees_put m v a (see v r) low.0 h),
        );
      })
  stores a r fr (inr high) inside =
      let far = le-ltb a 32 (omega (arith, high.0)) in
      let room : m.place + 2 ≤ 8192 = subst (λ b. m.place + size_of (if b then insn.Mov a r else insn.Sts a r) ≤ 8192) far inside in
      subst (λ b. Does (if b then insn.Mov a r else insn.Sts a r)
      (Straight (λ v. record v { cells = changed v.cells a (see v r) }) (size_of (if b then insn.Mov a r else insn.Sts a r))) env m v) (sym far)
      (record {
        free = long_free room;
        asks = refl;
        acts = (
          record m { sram = slice_set m.sram (a - 96) (see v r) },
          ap (stored_at mega16 m a) (h.file r fr) ∙ sts_writes a (see v r) high.0 (omega (arith, high.1)),
          sees_ram a (see v r) high.0 (omega (arith, high.1)),
        );
      })

  abbrev Fetched : BitSource → Type 0
  Fetched from = Does (insn_of (Fetches from)) (kind_of (Fetches from)) env m v

  -- a port's register is read
  level : (port b : ℕ) → port < 4 → Fetched (bit.Level port b)
  level zero b low = record {
    free = refl;
    asks = refl;
    acts = takes 18 _ _ (lit< tt) (ap (λ (c : AvrState). pins c.devices.port_a (slice_index c.devices.reading.levels 0)) h.core);
  }
  level (suc zero) b low = record {
    free = refl;
    asks = refl;
    acts = takes 18 _ _ (lit< tt) (ap (λ (c : AvrState). pins c.devices.port_b (slice_index c.devices.reading.levels 1)) h.core);
  }
  level (suc (suc zero)) b low = record {
    free = refl;
    asks = refl;
    acts = takes 18 _ _ (lit< tt) (ap (λ (c : AvrState). pins c.devices.port_c (slice_index c.devices.reading.levels 2)) h.core);
  }
  level (suc (suc (suc zero))) b low = record {
    free = refl;
    asks = refl;
    acts = takes 18 _ _ (lit< tt) (ap (λ (c : AvrState). pins c.devices.port_d (slice_index c.devices.reading.levels 3)) h.core);
  }
  level (suc (suc (suc (suc k)))) b low = absurd (past_ports k low)

  latch : (port b : ℕ) → port < 4 → Fetched (bit.Latch port b)
  latch zero b low = record { free = refl; asks = refl; acts = takes 18 _ _ (lit< tt) (ap (λ (c : AvrState). c.devices.port_a.latch) h.core) }
  latch (suc zero) b low = record { free = refl; asks = refl; acts = takes 18 _ _ (lit< tt) (ap (λ (c : AvrState). c.devices.port_b.latch) h.core) }
  latch (suc (suc zero)) b low = record { free = refl; asks = refl; acts = takes 18 _ _ (lit< tt) (ap (λ (c : AvrState). c.devices.port_c.latch) h.core) }
  latch (suc (suc (suc zero))) b low = record { free = refl; asks = refl; acts = takes 18 _ _ (lit< tt) (ap (λ (c : AvrState). c.devices.port_d.latch) h.core) }
  latch (suc (suc (suc (suc k)))) b low = absurd (past_ports k low)

  fetches : (from : BitSource) → FetchFits from → m.place + size_of (insn_of (Fetches from)) ≤ 8192 → Fetched from
  fetches (bit.Cell a b) fit inside = loads 18 a (lit< tt) fit inside
  fetches (bit.Level port b) fit inside = level port b fit
  fetches (bit.Latch port b) fit inside = latch port b fit

  gives : (a r : ℕ) → (r < 32) × (a < 32) × (is_work a ≡ false) → Does (insn.Mov a r) (kind_of (Gives a r)) env m v
  gives a r fit = record {
    free = refl;
    asks = refl;
    acts = (
      with_reg m a (see v r),
      ap (λ n. after (with_reg m a n) Next 1) (h.file r fit.0),
      subst (λ w. Sees (with_reg m a (see v r)) w) (put_cell a (see v r) fit.2) (sees_put m v a (see v r) fit.1 h),
    );
  }

  latches : (port b : ℕ) (x : Bool) → port < 4 → Does (insn_of (Latches port b x)) (kind_of (Latches port b x)) env m v
  latches zero b true low = record { free = refl; asks = refl; acts = (latched m 0 b true, refl, sees_core m v (λ c. latched c 0 b true) refl refl refl h) }
  latches zero b false low = record { free = refl; asks = refl; acts = (latched m 0 b false, refl, sees_core m v (λ c. latched c 0 b false) refl refl refl h) }
  latches (suc zero) b true low = record {
    free = refl;
    asks = refl;
    acts =
        (latched m 1 b true, refl, sees_core m v (λ c. latched c 1 b true) refl refl refl h);
  }
  latches (suc zero) b false low =
      record { free = refl; asks = refl; acts = (latched m 1 b false, refl, sees_core m v (λ c. latched c 1 b false) refl refl refl h) }
  latches (suc (suc zero)) b true low =
      record { free = refl; asks = refl; acts = (latched m 2 b true, refl, sees_core m v (λ c. latched c 2 b true) refl refl refl h) }
  latches (suc (suc zero)) b false low =
      record { free = refl; asks = refl; acts = (latched m 2 b false, refl, sees_core m v (λ c. latched c 2 b false) refl refl refl h) }
  latches (suc (suc (suc zero))) b true low =
      record { free = refl; asks = refl; acts = (latched m 3 b true, refl, sees_core m v (λ c. latched c 3 b true) refl refl refl h) }
  latches (suc (suc (suc zero))) b false low =
      record { free = refl; asks = refl; acts = (latched m 3 b false, refl, sees_core m v (λ c. latched c 3 b false) refl refl refl h) }
  latches (suc (suc (suc (suc k)))) b x low = absurd (past_ports k low)

  abbrev Skipped : BitSource → Bool → Type 0
  Skipped from is = Does (insn_of (Skips from is)) (kind_of (Skips from is)) env m v

  not_same : (b : Bool) → not b ≡ same b false
  not_same true = refl
  not_same false = refl

  is_same : (b : Bool) → b ≡ same b true
  is_same true = refl
  is_same false = refl

  -- a bit of a register
  skips_reg : (r b : ℕ) (is : Bool) → r < 32 → Does (skip_of is r b) (SkipIf (λ v. same (bit_of (see v r) b) is)) env m v
  skips_reg r b true low = record { free = refl; asks = refl; acts = ap (λ n. skip_if m (bit_of n b)) (h.file r low) ∙ ap (skip_if m) (is_same _) }
  skips_reg r b false low = record { free = refl; asks = refl; acts = ap (λ n. skip_if m (not (bit_of n b))) (h.file r low) ∙ ap (skip_if m) (not_same _) }

  skips_cell : (a b : ℕ) (is c : Bool) → nat_lt a 32 ≡ c → Does (if c then skip_of is a (in_byte b) else skip_of is 18 (in_byte b))
      (SkipIf (λ v. same (bit_of (if c then see v a else v.work 18) (in_byte b)) is)) env m v
  skips_cell a b is true e = skips_reg a (in_byte b) is (ltb-true a 32 e)
  skips_cell a b is false e = skips_reg 18 (in_byte b) is (lit< tt)

  skip_is : (t : Bool) → record { state = m; acted = act (if t then Skip else Next) 1 NoPoll None } ≡ skip_if m t
  skip_is true = refl
  skip_is false = refl

  -- a bit of an I/O register that asks nobody
  skips_io : (a b n : ℕ) (w : View → ℕ) (is : Bool) → bit_ask (register_at a) ≡ ask.Nothing →
      bit_read env m (register_in mega16 a) ≡ record { state = m; answer = answer n NoPoll } → n ≡ w v →
      Does (io_skip is a b) (SkipIf (λ v. same (bit_of (w v) b) is)) env m v
  skips_io a b n w true quiet read e = record {
    free = refl;
    asks = quiet;
    acts = ap (λ g. skip_where g b true) read ∙ skip_is (bit_of n b) ∙ ap (λ x. skip_if m (bit_of x b)) e ∙ ap (skip_if m) (is_same _);
  }
  skips_io a b n w false quiet read e = record {
    free = refl;
    asks = quiet;
    acts = ap (λ g. skip_where g b false) read ∙ skip_is (not (bit_of n b)) ∙ ap (λ x. skip_if m (not (bit_of x b))) e ∙ ap (skip_if m) (not_same _);
  }

  skips_level : (port b : ℕ) (is : Bool) → port < 4 → Skipped (bit.Level port b) is
  skips_level zero b is low =
      skips_io 0x19 (in_byte b) _ (λ v. pins v.core.devices.port_a (slice_index v.core.devices.reading.levels 0)) is refl refl
      (ap (λ (c : AvrState). pins c.devices.port_a (slice_index c.devices.reading.levels 0)) h.core)
  skips_level (suc zero) b is low =
      skips_io 0x16 (in_byte b) _ (λ v. pins v.core.devices.port_b (slice_index v.core.devices.reading.levels 1)) is refl refl
      (ap (λ (c : AvrState). pins c.devices.port_b (slice_index c.devices.reading.levels 1)) h.core)
  skips_level (suc (suc zero)) b is low =
      skips_io 0x13 (in_byte b) _ (λ v. pins v.core.devices.port_c (slice_index v.core.devices.reading.levels 2)) is refl refl
      (ap (λ (c : AvrState). pins c.devices.port_c (slice_index c.devices.reading.levels 2)) h.core)
  skips_level (suc (suc (suc zero))) b is low =
      skips_io 0x10 (in_byte b) _ (λ v. pins v.core.devices.port_d (slice_index v.core.devices.reading.levels 3)) is refl refl
      (ap (λ (c : AvrState). pins c.devices.port_d (slice_index c.devices.reading.levels 3)) h.core)
  skips_level (suc (suc (suc (suc k)))) b is low = absurd (past_ports k low)

  skips_latch : (port b : ℕ) (is : Bool) → port < 4 → Skipped (bit.Latch port b) is
  skips_latch zero b is low = skips_io 0x1b (in_byte b) _ (λ v. v.core.devices.port_a.latch) is refl refl (ap (λ (c : AvrState). c.devices.port_a.latch) h.core)
  skips_latch (suc zero) b is low = skips_io 0x18 (in_byte b) _ (λ v. v.core.devices.port_b.latch) is refl refl (ap (λ (c : AvrState). c.devices.port_b.latch) h.core)
  skips_latch (suc (suc zero)) b is low = skips_io 0x15 (in_byte b) _ (λ v. v.core.devices.port_c.latch) is refl refl (ap (λ (c : AvrState). c.devices.port_c.latch) h.core)
  skips_latch (suc (suc (suc zero))) b is low = skips_io 0x12 (in_byte b) _ (λ v. v.core.devices.port_d.latch) is refl refl (ap (λ (c : AvrState). c.devices.port_d.latch) h.core)
  skips_latch (suc (suc (suc (suc k)))) b is low = absurd (past_ports k low)

  skips : (from : BitSource) (is : Bool) → TestFits from → Skipped from is
  skips (bit.Cell a b) is fit = skips_cell a b is (nat_lt a 32) refl
  skips (bit.Level port b) is fit = skips_level port b is fit
  skips (bit.Latch port b) is fit = skips_latch port b is fit

  -- each piece does as its kind says
  pub piece_does : (p : Piece) → PieceFits p → m.place + size_of (insn_of p) ≤ 8192 → Does (insn_of p) (kind_of p) env m v
  piece_does (Plain i) fit inside = does i fit inside
  piece_does (Loads r a) fit inside = loads r a fit.0 (held a fit.1) inside
  piece_does (Stores a r) fit inside = stores a r fit.0 (held a fit.1) inside
  piece_does (Fetches from) fit inside = fetches from fit inside
  piece_does (Gives a r) fit inside = gives a r fit
  piece_does (Latches port b x) fit inside = latches port b x fit.0
  piece_does (Skips from is) fit inside = skips from is fit
  piece_does (Mixes d r true) fit inside = does (insn.Or d r) fit inside
  piece_does (Mixes d r false) fit inside = does (insn.And d r) fit inside
