-- When a view stands for a state of the byte machine, and how it goes on standing.
use Rattle.std.proofs.Common.{◌≡◌, ◌≢◌, ◌⊎◌, ⊎_elim, eq-eqb, ℕ, zero, suc, ◌+◌, ◌-◌, ◌*◌, ◌/◌, ◌%◌, ◌<◌, ◌≤◌, inl, inr, Bool, true, false, List, length, Option, Some, None, refl, sym, ap, ap₂, ◌∙◌, subst, arith, lit<, lit≤}
use Rattle.std.proofs.Math.ListN.{set, length-set}
use Rattle.std.proofs.lemmas.Bool.{cases_eq, ne_eqb, lt-ltb, le-ltb, lt-leb, leb-true, true≢false, false≢true}
use Rattle.std.specs.Prelude.{◌==◌, ◌&&◌, ◌||◌, nat_le, nat_lt, if◌then◌else◌, slice_index, slice_set}
use Rattle.chip_tables.specs.Scratch.{avr_scratch}
use Rattle.byte_code.specs.declared.state.Bytes.{Bytes}
use Rattle.byte_code.specs.declared.store.Flag.{Flag}
use Rattle.byte_code.specs.declared.store.Store.{Store}
use Rattle.byte_code.specs.Store.{cell, with_cell, with_word, with_bit}
use Rattle.chip_tables.specs.Bits.{bit_of}
use Rattle.chip_tables.specs.declared.target.Target.TheVariants.{Mega16}
use Rattle.avr_devices.specs.Device.{is_timing, port_of}
use Rattle.avr_mach.specs.declared.state.AvrState.{AvrState}
use Rattle.avr_mach.specs.Memory.{ram_byte}
use Rattle.avr_mach.specs.State.{reg, flag}
use Rattle.avr_code.specs.Code.{status_bit, is_wire, Board, direction}
use Rattle.avr_code.proofs.BitFacts.{with_bit_low, with_bit_small}
use Rattle.avr_code.proofs.Effects.{latched, past_ports}
use Rattle.avr_code.specs.Stands.{is_work, IsCell, HasFlag, HasReturn, Shows, StandsAt}
use Rattle.avr_code.proofs.View.{View, changed, bare, Sees, set_index}

pub record Holds (v : View) (d : Store) : Type 0 where
  pub all : length d.cells ≡ 1120
  pub scratch : d.scratch ≡ avr_scratch
  pub target : d.target ≡ Mega16
  pub ports : length d.latches ≡ 5
  pub cells : (a : ℕ) → IsCell a → v.cells a ≡ cell d a
  pub wires : (a : ℕ) → is_wire a ≡ true → bit_of (v.cells a) 0 ≡ bit_of (cell d a) 0
  pub bytes : (a : ℕ) → cell d a < 256
  pub latches : (port : ℕ) → port < 4 → (port_of v.core.devices port).latch ≡ slice_index d.latches port
  pub reading : v.core.devices.reading ≡ d.reading
  pub eeprom : v.core.devices.eeprom.bytes ≡ d.eeprom

pub record Started (board : Board) (v : View) : Type 0 where
  pub zero : v.work 1 ≡ 0
  pub directions : (port : ℕ) → port < 4 → (port_of v.core.devices port).direction ≡ direction board.outputs port
  pub timing : is_timing v.core.devices ≡ true
  pub quiet : v.core.devices.timer.flag ≡ false

abbrev pub BackBy : List ℕ → ℕ → (ℕ → ℕ) → Option ℕ → Type 0
BackBy places stack cells None = stack ≡ 1119
BackBy places stack cells (Some k) = (stack ≡ 1117) × (cells 1118 * 256 + cells 1119 ≡ slice_index places k)

abbrev pub Back : List ℕ → View → Option ℕ → Type 0
Back places v o = BackBy places v.core.stack v.cells o

-- wherever the machine is
pub record Has (board : Board) (places : List ℕ) (v : View) (s : Bytes) : Type 0 where
  pub holds : Holds v s.store
  pub settings : v.core.devices.settings ≡ board.settings
  pub started : s.started ≡ true → Started board v
  pub flag : HasFlag v.core s.store.flag
  pub back : s.started ≡ true → Back places v s.open_call
  pub closed : s.started ≡ false → s.open_call ≡ None

pub record ViewStands (board : Board) (places : List ℕ) (v : View) (s : Bytes) : Type 0 where
  pub has : Has board places v s
  pub at : v.core.place ≡ slice_index places s.place

-- the view of a machine
abbrev pub view_of : AvrState → View
view_of m = record { core = bare m; work = reg m; cells = λ a. if nat_lt a 32 then reg m a else slice_index m.sram (a - 96) }

pub view_seen : (m : AvrState) → length m.regs ≡ 32 → length m.sram ≡ 1024 → Sees m (view_of m)
view_seen m regs sram = record {
  regs = regs;
  sram = sram;
  core = refl;
  file = λ r low. by r low (is_work r);
  ram = λ a lo hi. sym (ap (λ b. if b then reg m a else slice_index m.sram (a - 96)) (le-ltb a 32 (omega (arith, lo))));
}
  where
    by : (r : ℕ) → r < 32 → (b : Bool) → reg m r ≡ (if b then reg m r else if nat_lt r 32 then reg m r else slice_index m.sram (r - 96))
    by r low true = refl
    by r low false = sym (ap (λ b. if b then reg m r else slice_index m.sram (r - 96)) (lt-ltb r 32 low))

-- a wire is R20, or one of R2 to R9
pub wire_is : (r : ℕ) → is_wire r ≡ true → (r ≡ 20) ⊎ ((2 ≤ r) × (r ≤ 9))
wire_is r e = by (cases_eq r 20)
  where
    both : (b c : Bool) → nat_le 2 r ≡ b → nat_le r 9 ≡ c → (b && c) ≡ true → (2 ≤ r) × (r ≤ 9)
    both true true f g q = (leb-true 2 r f, leb-true r 9 g)
    both true false f g q = absurd (false≢true q)
    both false c f g q = absurd (false≢true q)

    by : (r ≡ 20) ⊎ (r ≢ 20) → (r ≡ 20) ⊎ ((2 ≤ r) × (r ≤ 9))
    by (inl same) = inl same
    by (inr other) = inr (both (nat_le 2 r) (nat_le r 9) refl refl (sym (ap (λ b. b || (nat_le 2 r && nat_le r 9)) (ne_eqb r 20 other)) ∙ e))

pub wire_low : (r : ℕ) → is_wire r ≡ true → r < 32
wire_low r e = by (wire_is r e)
  where
    by : (r ≡ 20) ⊎ ((2 ≤ r) × (r ≤ 9)) → r < 32
    by (inl same) = omega (arith, same)
    by (inr near) = let low = near.1 in omega (arith, low)

pub wire_free : (r : ℕ) → is_wire r ≡ true → is_work r ≡ false
wire_free r e = by (wire_is r e)
  where
    by : (r ≡ 20) ⊎ ((2 ≤ r) × (r ≤ 9)) → is_work r ≡ false
    by (inl same) = ap is_work same
    by (inr near) = let low = near.0 in let high = near.1 in
        ap₂ (λ b c. b || (c && nat_le r 19)) (ne_eqb r 1 (λ q. omega (arith, q, low))) (lt-leb 16 r (omega (arith, high)))

-- no cell is a wire
pub apart : (a b : ℕ) → IsCell a → is_wire b ≡ true → b ≢ a
apart a b (inl low) e same = true≢false (sym e ∙ ap is_wire same ∙ low.2)
apart a b (inr high) e same = let far = high.0 in let near = wire_low b e in omega (arith, far, near, same)

module _ (board : Board) (places : List ℕ) (m : AvrState) (v : View) (s : Bytes) (h : Sees m v) where
  of_core : {X : Type 0} (f : AvrState → X) → f (bare m) ≡ f v.core
  of_core f = ap f h.core

  cell_of : (d : Store) → Shows m d → (a : ℕ) → IsCell a → v.cells a ≡ cell d a
  cell_of d st a (inl low) = sym (ap (λ b. if b then v.work a else v.cells a) low.1) ∙ sym (h.file a low.0) ∙ st.file a low.0 low.1 low.2
  cell_of d st a (inr high) = sym (h.ram a high.0 (let top = high.1 in omega (arith, top))) ∙ st.ram a high.0 high.1

  wire_seen : (r : ℕ) → is_wire r ≡ true → reg m r ≡ v.cells r
  wire_seen r e = h.file r (wire_low r e) ∙ ap (λ b. if b then v.work r else v.cells r) (wire_free r e)

  flag_of : (o : Option Flag) → HasFlag m o → HasFlag v.core o
  flag_of None f = f
  flag_of (Some f) e = sym (of_core (λ c. flag c (status_bit f.kind))) ∙ e

  flag_back : (o : Option Flag) → HasFlag v.core o → HasFlag m o
  flag_back None f = f
  flag_back (Some f) e = of_core (λ c. flag c (status_bit f.kind)) ∙ e

  top_bytes : m.stack ≡ 1117 → ram_byte m (m.stack + 1) * 256 + ram_byte m (m.stack + 2) ≡ v.cells 1118 * 256 + v.cells 1119
  top_bytes e =
      ap (λ n. ram_byte m (n + 1) * 256 + ram_byte m (n + 2)) e
      ∙ ap₂ (λ a b. a * 256 + b) (h.ram 1118 (lit≤ tt) (lit< tt)) (h.ram 1119 (lit≤ tt) (lit< tt))

  return_of : (o : Option ℕ) → HasReturn places m o → Back places v o
  return_of None e = sym (of_core (λ c. c.stack)) ∙ e
  return_of (Some k) e = (sym (of_core (λ c. c.stack)) ∙ e.0, sym (top_bytes e.0) ∙ e.1)

  return_back : (o : Option ℕ) → Back places v o → HasReturn places m o
  return_back None e = of_core (λ c. c.stack) ∙ e
  return_back (Some k) e = let top : m.stack ≡ 1117 = of_core (λ c. c.stack) ∙ e.0 in (top, top_bytes top ∙ e.1)

  pub to_view : StandsAt board places m s → ViewStands board places v s
  to_view st = record {
    has = record {
      holds = record {
        all = st.shows.all;
        scratch = st.shows.scratch;
        target = st.shows.target;
        ports = st.shows.ports;
        cells = cell_of s.store st.shows;
        wires = λ r e. ap (λ x. bit_of x 0) (sym (wire_seen r e)) ∙ st.shows.wires r e;
        bytes = st.shows.bytes;
        latches = λ port low. sym (of_core (λ c. (port_of c.devices port).latch)) ∙ st.shows.latches port low;
        reading = sym (of_core (λ c. c.devices.reading)) ∙ st.shows.reading;
        eeprom = sym (of_core (λ c. c.devices.eeprom.bytes)) ∙ st.shows.eeprom;
      };
      settings = sym (of_core (λ c. c.devices.settings)) ∙ st.settings;
      started = λ e. record {
        zero = sym (h.file 1 (lit< tt)) ∙ (st.started e).zero;
        directions = λ port low. sym (of_core (λ c. (port_of c.devices port).direction)) ∙ (st.started e).directions port low;
        timing = sym (of_core (λ c. is_timing c.devices)) ∙ (st.started e).timing;
        quiet = sym (of_core (λ c. c.devices.timer.flag)) ∙ (st.started e).quiet;
      };
      flag = flag_of s.store.flag st.flag;
      back = λ e. return_of s.open_call (st.back e);
      closed = st.closed;
    };
    at = sym (of_core (λ c. c.place)) ∙ st.at;
  }

  pub shown : Has board places v s → Shows m s.store
  shown st = record {
    regs = h.regs;
    sram = h.sram;
    all = st.holds.all;
    scratch = st.holds.scratch;
    target = st.holds.target;
    ports = st.holds.ports;
    file = λ r low free byte. h.file r low ∙ ap (λ b. if b then v.work r else v.cells r) free ∙ st.holds.cells r (inl (low, free, byte));
    wires = λ r e. ap (λ x. bit_of x 0) (wire_seen r e) ∙ st.holds.wires r e;
    ram = λ a lo hi. h.ram a lo (let top = hi in omega (arith, top)) ∙ st.holds.cells a (inr (lo, hi));
    bytes = st.holds.bytes;
    latches = λ port low. of_core (λ c. (port_of c.devices port).latch) ∙ st.holds.latches port low;
    reading = of_core (λ c. c.devices.reading) ∙ st.holds.reading;
    eeprom = of_core (λ c. c.devices.eeprom.bytes) ∙ st.holds.eeprom;
  }

  pub from_view : ViewStands board places v s → StandsAt board places m s
  from_view st = record {
    shows = shown st.has;
    at = of_core (λ c. c.place) ∙ st.at;
    settings = of_core (λ c. c.devices.settings) ∙ st.has.settings;
    started = λ e. record {
      zero = h.file 1 (lit< tt) ∙ (st.has.started e).zero;
      directions = λ port low. of_core (λ c. (port_of c.devices port).direction) ∙ (st.has.started e).directions port low;
      timing = of_core (λ c. is_timing c.devices) ∙ (st.has.started e).timing;
      quiet = of_core (λ c. c.devices.timer.flag) ∙ (st.has.started e).quiet;
    };
    flag = flag_back s.store.flag st.has.flag;
    back = λ e. return_back s.open_call (st.has.back e);
    closed = st.has.closed;
  }

cell_after : (xs : List ℕ) (f : ℕ → ℕ) (a x y : ℕ) → length xs ≡ 1120 → a < 1120 → x ≡ y → (b : ℕ) → f b ≡ slice_index xs b →
    changed f a x b ≡ slice_index (slice_set xs a y) b
cell_after xs f a x y all low e b was =
    ap₂ (λ p q. if b == a then p else q) e was ∙ sym (set_index xs a y b (omega (arith, all, low)))

byte_after : (xs : List ℕ) (a y : ℕ) → length xs ≡ 1120 → a < 1120 → y < 256 → ((b : ℕ) → slice_index xs b < 256) → (b : ℕ) → slice_index (slice_set xs a y)
    b < 256
byte_after xs a y all low small bytes b =
    subst (λ n. n < 256) (sym (set_index xs a y b (omega (arith, all, low)))) (by (b == a))
  where
    by : (t : Bool) → (if t then y else slice_index xs b) < 256
    by true = small
    by false = bytes b

pub cell_low : (a : ℕ) → IsCell a → a < 1056
cell_low a (inl low) = let e = low.0 in omega (arith, e)
cell_low a (inr high) = high.1

-- where the devices' parts, the stack and R1 are as they were
pub record Alike (v w : View) : Type 0 where
  pub eeprom : w.core.devices.eeprom.bytes ≡ v.core.devices.eeprom.bytes
  pub settings : w.core.devices.settings ≡ v.core.devices.settings
  pub directions : (port : ℕ) → port < 4 → (port_of w.core.devices port).direction ≡ (port_of v.core.devices port).direction
  pub reading : w.core.devices.reading ≡ v.core.devices.reading
  pub latches : (port : ℕ) → (port_of w.core.devices port).latch ≡ (port_of v.core.devices port).latch
  pub timing : is_timing w.core.devices ≡ is_timing v.core.devices
  pub quiet : w.core.devices.timer.flag ≡ v.core.devices.timer.flag
  pub stack : w.core.stack ≡ v.core.stack
  pub zero : w.work 1 ≡ v.work 1

pub alike : (v w : View) → w.core.devices.eeprom.bytes ≡ v.core.devices.eeprom.bytes → w.core.devices.settings ≡ v.core.devices.settings →
    w.core.devices.reading ≡ v.core.devices.reading →
    ((port : ℕ) → port_of w.core.devices port ≡ port_of v.core.devices port) → is_timing w.core.devices ≡ is_timing v.core.devices →
    w.core.devices.timer.flag ≡ v.core.devices.timer.flag → w.core.stack ≡ v.core.stack → w.work 1 ≡ v.work 1 → Alike v w
alike v w r s a b c d e f = record {
  eeprom = r;
  settings = s;
  directions = λ port low. ap (λ p. p.direction) (b port);
  reading = a;
  latches = λ port. ap (λ p. p.latch) (b port);
  timing = c;
  quiet = d;
  stack = e;
  zero = f;
}

-- cells do not count
pub alike_cells : (v w : View) (f : ℕ → ℕ) → Alike v w → Alike (record v { cells = f }) w
alike_cells v w f k = record {
  eeprom = k.eeprom;
  settings = k.settings;
  directions = k.directions;
  reading = k.reading;
  latches = k.latches;
  timing = k.timing;
  quiet = k.quiet;
  stack = k.stack;
  zero = k.zero;
}

back_kept : (places : List ℕ) (v w : View) (o : Option ℕ) → w.core.stack ≡ v.core.stack → w.cells 1118 ≡ v.cells 1118 → w.cells 1119 ≡ v.cells 1119 →
    Back places v o → Back places w o
back_kept places v w None same high low b = same ∙ b
back_kept places v w (Some k) same high low b = (same ∙ b.0, ap₂ (λ x y. x * 256 + y) high low ∙ b.1)

-- another cell's bit stays
wire_after : (xs : List ℕ) (f : ℕ → ℕ) (a x y : ℕ) → length xs ≡ 1120 → a < 1120 → (b : ℕ) → b ≢ a → bit_of (f b) 0 ≡ bit_of (slice_index xs b) 0 →
    bit_of (changed f a x b) 0 ≡ bit_of (slice_index (slice_set xs a y) b) 0
wire_after xs f a x y all low b ne was =
    ap (λ t. bit_of (if t then x else f b) 0) (ne_eqb b a ne) ∙ was
    ∙ sym (ap (λ c. bit_of c 0) (set_index xs a y b (omega (arith, all, low)) ∙ ap (λ t. if t then y else slice_index xs b) (ne_eqb b a ne)))

-- another cell stays
other_after : (xs : List ℕ) (f : ℕ → ℕ) (a x y : ℕ) → length xs ≡ 1120 → a < 1120 → (b : ℕ) → b ≢ a → f b ≡ slice_index xs b →
    changed f a x b ≡ slice_index (slice_set xs a y) b
other_after xs f a x y all low b ne was =
    ap (λ t. if t then x else f b) (ne_eqb b a ne) ∙ was
    ∙ sym (set_index xs a y b (omega (arith, all, low)) ∙ ap (λ t. if t then y else slice_index xs b) (ne_eqb b a ne))

-- a wire's own bit
wire_now : (xs : List ℕ) (f : ℕ → ℕ) (a x i : ℕ) (y : Bool) → length xs ≡ 1120 → a < 1120 → i ≡ 0 → bit_of x 0 ≡ y → (b : ℕ) → b ≡ a →
    bit_of (changed f a x b) 0 ≡ bit_of (slice_index (slice_set xs a (with_bit (slice_index xs a) i y)) b) 0
wire_now xs f a x i y all low zero_bit e b same =
    let n = with_bit (slice_index xs a) i y in
    ap (λ t. bit_of (if t then x else f b) 0) (eq-eqb b a same) ∙ e
    ∙ sym (ap (λ c. bit_of c 0) (set_index xs a n b (omega (arith, all, low)) ∙ ap (λ t. if t then n else slice_index xs b) (eq-eqb b a same))
    ∙ ap (λ j. bit_of (with_bit (slice_index xs a) j y) 0) zero_bit ∙ with_bit_low (slice_index xs a) y)

module _ (board : Board) (places : List ℕ) (v w : View) (s : Bytes) (k : Alike v w) (st : Has board places v s) where
  started_on : s.started ≡ true → Started board w
  started_on e = record {
    zero = k.zero ∙ (st.started e).zero;
    directions = λ port low. k.directions port low ∙ (st.started e).directions port low;
    timing = k.timing ∙ (st.started e).timing;
    quiet = k.quiet ∙ (st.started e).quiet;
  }

  -- no cell changes
  pub has_kept : (o : Option Flag) (place : ℕ) → ((b : ℕ) → w.cells b ≡ v.cells b) → HasFlag w.core o → Has board places w (record s {
    place = place;
    store = record s.store { flag = o };
  })
  has_kept o place same f = record {
    holds = record {
      all = st.holds.all;
      scratch = st.holds.scratch;
      target = st.holds.target;
      ports = st.holds.ports;
      cells = λ b in'. same b ∙ st.holds.cells b in';
      wires = λ b e. ap (λ x. bit_of x 0) (same b) ∙ st.holds.wires b e;
      bytes = st.holds.bytes;
      latches = λ port low. k.latches port ∙ st.holds.latches port low;
      reading = k.reading ∙ st.holds.reading;
      eeprom = k.eeprom ∙ st.holds.eeprom;
    };
    settings = k.settings ∙ st.settings;
    started = started_on;
    flag = f;
    closed = st.closed;
    back = λ e. back_kept places v w s.open_call k.stack (same 1118) (same 1119) (st.back e);
  }

  pub has_same : (o : Option Flag) (place : ℕ) → w.cells ≡ v.cells → HasFlag w.core o → Has board places w (record s {
    place = place;
    store = record s.store { flag = o };
  })
  has_same o place same f = has_kept o place (λ b. ap (λ g. g b) same) f

  other_cell : (f : ℕ → ℕ) (a x b : ℕ) → IsCell a → 1056 ≤ b → changed f a x b ≡ f b
  other_cell f a x b in' high = let top = cell_low a in' in ap (λ t. if t then x else f b) (ne_eqb b a (λ e. omega (arith, e, top, high)))

  -- a cell takes a byte
  pub has_cell_by : (a x y : ℕ) → IsCell a → ((b : ℕ) → w.cells b ≡ changed v.cells a x b) → x ≡ y → y < 256 →
      Has board places w (record s { place = suc s.place; store = record (with_cell s.store a y) { flag = None } })
  has_cell_by a x y in' same e small =
      let low : a < 1120 = (let top = cell_low a in' in omega (arith, top)) in
      record {
        holds = record {
          all = length-set s.store.cells a y ∙ st.holds.all;
          scratch = st.holds.scratch;
          target = st.holds.target;
          ports = st.holds.ports;
          cells = λ b inside. same b ∙ cell_after s.store.cells v.cells a x y st.holds.all low e b (st.holds.cells b inside);
          wires = λ b is. ap (λ c. bit_of c 0) (same b) ∙ wire_after s.store.cells v.cells a x y st.holds.all low b (apart a b in' is) (st.holds.wires b is);
          bytes = byte_after s.store.cells a y st.holds.all low small st.holds.bytes;
          latches = λ port low. k.latches port ∙ st.holds.latches port low;
          reading = k.reading ∙ st.holds.reading;
          eeprom = k.eeprom ∙ st.holds.eeprom;
        };
        settings = k.settings ∙ st.settings;
        started = started_on;
        flag = tt;
        closed = st.closed;
        back = λ e. back_kept places v w s.open_call k.stack (same 1118 ∙ other_cell v.cells a x 1118 in' (lit≤ tt))
            (same 1119 ∙ other_cell v.cells a x 1119 in' (lit≤ tt)) (st.back e);
      }

  pub has_cell : (a x y : ℕ) → IsCell a → w.cells ≡ changed v.cells a x → x ≡ y → y < 256 →
      Has board places w (record s { place = suc s.place; store = record (with_cell s.store a y) { flag = None } })
  has_cell a x y in' same e small = has_cell_by a x y in' (λ b. ap (λ g. g b) same) e small

  -- two cells take a word
  pub has_word_by : (a x y n : ℕ) → IsCell a → IsCell (a + 1) → ((b : ℕ) → w.cells b ≡ changed (changed v.cells a x) (a + 1) y b) → x ≡ n % 256 →
      y ≡ n / 256 % 256 →
      Has board places w (record s { place = suc s.place; store = record (with_word s.store a n) { flag = None } })
  has_word_by a x y n in1 in2 same e1 e2 =
      let low1 : a < 1120 = (let top = cell_low a in1 in omega (arith, top)) in
      let low2 : a + 1 < 1120 = (let top = cell_low (a + 1) in2 in omega (arith, top)) in
      let small1 : n % 256 < 256 = omega arith in
      let small2 : n / 256 % 256 < 256 = omega arith in
      let xs = slice_set s.store.cells a (n % 256) in
      let all = length-set s.store.cells a (n % 256) ∙ st.holds.all in
      record {
        holds = record {
          all = length-set xs (a + 1) (n / 256 % 256) ∙ all;
          scratch = st.holds.scratch;
          target = st.holds.target;
          ports = st.holds.ports;
          cells = λ b inside. same b ∙ cell_after xs (changed v.cells a x) (a + 1) y (n / 256 % 256) all low2 e2 b
              (cell_after s.store.cells v.cells a x (n % 256) st.holds.all low1 e1 b (st.holds.cells b inside));
          wires = λ b is. ap (λ c. bit_of c 0) (same b) ∙ wire_after xs (changed v.cells a x) (a + 1) y (n / 256 % 256) all low2 b (apart (a + 1) b in2 is)
              (wire_after s.store.cells v.cells a x (n % 256) st.holds.all low1 b (apart a b in1 is) (st.holds.wires b is));
          bytes = byte_after xs (a + 1) (n / 256 % 256) all low2 small2 (byte_after s.store.cells a (n % 256) st.holds.all low1 small1 st.holds.bytes);
          latches = λ port low. k.latches port ∙ st.holds.latches port low;
          reading = k.reading ∙ st.holds.reading;
          eeprom = k.eeprom ∙ st.holds.eeprom;
        };
        settings = k.settings ∙ st.settings;
        started = started_on;
        flag = tt;
        closed = st.closed;
        back = λ e. back_kept places v w s.open_call k.stack
            (same 1118 ∙ other_cell (changed v.cells a x) (a + 1) y 1118 in2 (lit≤ tt) ∙ other_cell v.cells a x 1118 in1 (lit≤ tt))
            (same 1119 ∙ other_cell (changed v.cells a x) (a + 1) y 1119 in2 (lit≤ tt) ∙ other_cell v.cells a x 1119 in1 (lit≤ tt)) (st.back e);
      }

  pub has_word : (a x y n : ℕ) → IsCell a → IsCell (a + 1) → w.cells ≡ changed (changed v.cells a x) (a + 1) y → x ≡ n % 256 → y ≡ n / 256 % 256 →
      Has board places w (record s { place = suc s.place; store = record (with_word s.store a n) { flag = None } })
  has_word a x y n in1 in2 same e1 e2 = has_word_by a x y n in1 in2 (λ b. ap (λ g. g b) same) e1 e2

  -- a wire's bit becomes so
  pub has_wire : (o : Option Flag) (a x i : ℕ) (y : Bool) → is_wire a ≡ true → i ≡ 0 → ((b : ℕ) → w.cells b ≡ changed v.cells a x b) → bit_of x 0 ≡ y →
      HasFlag w.core o →
      Has board places w (record s { place = suc s.place; store = record (with_cell s.store a (with_bit (cell s.store a) i y)) { flag = o } })
  has_wire o a x i y wire zero_bit same e f =
      let near : a < 32 = wire_low a wire in
      let low : a < 1120 = omega (arith, near) in
      let xs = s.store.cells in
      let n = with_bit (cell s.store a) i y in
      let small : n < 256 = with_bit_small (cell s.store a) i y (st.holds.bytes a) (omega (arith, zero_bit)) in
      record {
        holds = record {
          all = length-set xs a n ∙ st.holds.all;
          scratch = st.holds.scratch;
          target = st.holds.target;
          ports = st.holds.ports;
          cells = λ b inside. same b ∙ other_after xs v.cells a x n st.holds.all low b (λ q. apart b a inside wire (sym q)) (st.holds.cells b inside);
          wires = λ b is. ap (λ c. bit_of c 0) (same b) ∙ ⊎_elim
              (λ (q : b ≡ a). wire_now xs v.cells a x i y st.holds.all low zero_bit e b q)
              (λ (q : b ≢ a). wire_after xs v.cells a x n st.holds.all low b q (st.holds.wires b is)) (cases_eq b a);
          bytes = byte_after xs a n st.holds.all low small st.holds.bytes;
          latches = λ port below. k.latches port ∙ st.holds.latches port below;
          reading = k.reading ∙ st.holds.reading;
          eeprom = k.eeprom ∙ st.holds.eeprom;
        };
        settings = k.settings ∙ st.settings;
        started = started_on;
        flag = f;
        closed = st.closed;
        back = λ q. back_kept places v w s.open_call k.stack (same 1118 ∙ far 1118 near (lit≤ tt)) (same 1119 ∙ far 1119 near (lit≤ tt)) (st.back q);
      }
    where
      far : (b : ℕ) → a < 32 → 32 ≤ b → changed v.cells a x b ≡ v.cells b
      far b near high = ap (λ t. if t then x else v.cells b) (ne_eqb b a (λ q. omega (arith, q, near, high)))

-- what is so of each port
pub four : (P : ℕ → Type 0) → P 0 → P 1 → P 2 → P 3 → (port : ℕ) → port < 4 → P port
four P a b c d zero low = a
four P a b c d (suc zero) low = b
four P a b c d (suc (suc zero)) low = c
four P a b c d (suc (suc (suc zero))) low = d
four P a b c d (suc (suc (suc (suc k)))) low = absurd (past_ports k low)

-- what a write of a latch leaves
record Kept (c : AvrState) (port b : ℕ) (x : Bool) : Type 0 where
  pub settings : (latched c port b x).devices.settings ≡ c.devices.settings
  pub reading : (latched c port b x).devices.reading ≡ c.devices.reading
  pub eeprom : (latched c port b x).devices.eeprom.bytes ≡ c.devices.eeprom.bytes
  pub timing : is_timing (latched c port b x).devices ≡ is_timing c.devices
  pub quiet : (latched c port b x).devices.timer.flag ≡ c.devices.timer.flag

kept : (c : AvrState) (port b : ℕ) (x : Bool) → port < 4 → Kept c port b x
kept c port b x low = four (λ p. Kept c p b x) (record { settings = refl; reading = refl; eeprom = refl; timing = refl; quiet = refl }) (record {
  settings = refl;
  reading = refl;
  eeprom = refl;
  timing = refl;
  quiet = refl;
}) (record { settings = refl; reading = refl; eeprom = refl; timing = refl; quiet = refl })
    (record { settings = refl; reading = refl; eeprom = refl; timing = refl; quiet = refl }) port low

abbrev Directed : AvrState → ℕ → Bool → ℕ → ℕ → Type 0
Directed c b x p q = (port_of (latched c p b x).devices q).direction ≡ (port_of c.devices q).direction

directed : (c : AvrState) (b : ℕ) (x : Bool) (p q : ℕ) → p < 4 → q < 4 → Directed c b x p q
directed c b x p q lp lq = four (λ p. Directed c b x p q) (four (Directed c b x 0) refl refl refl refl q lq) (four (Directed c b x 1) refl refl refl refl q lq)
    (four (Directed c b x 2) refl refl refl refl q lq) (four (Directed c b x 3) refl refl refl refl q lq) p lp

abbrev Latched : AvrState → ℕ → Bool → ℕ → ℕ → Type 0
Latched c b x p q = (port_of (latched c p b x).devices q).latch ≡ (if q == p then with_bit (port_of c.devices p).latch b x else (port_of c.devices q).latch)

latched_is : (c : AvrState) (b : ℕ) (x : Bool) (p q : ℕ) → p < 4 → q < 4 → Latched c b x p q
latched_is c b x p q lp lq = four (λ p. Latched c b x p q) (four (Latched c b x 0) refl refl refl refl q lq) (four (Latched c b x 1) refl refl refl refl q lq)
    (four (Latched c b x 2) refl refl refl refl q lq) (four (Latched c b x 3) refl refl refl refl q lq) p lp

-- a bit of a latch becomes so; the machine may have passed on since
pub has_latch : (board : Board) (places : List ℕ) (v u w : View) (s : Bytes) (port b : ℕ) (x : Bool) → port < 4 → Has board places v s →
    Alike v u → Alike (record u { core = latched u.core port b x }) w → w.cells ≡ v.cells →
    Has board places w (record s {
      place = suc s.place;
      store = record s.store { latches = slice_set s.store.latches port (with_bit (slice_index s.store.latches port) b x); flag = None };
    })
has_latch board places v u w s port b x low st j k same =
    let t = kept u.core port b x low in
    record {
      holds = record {
        all = st.holds.all;
        scratch = st.holds.scratch;
        target = st.holds.target;
        ports = length-set s.store.latches port _ ∙ st.holds.ports;
        cells = λ a in'. ap (λ g. g a) same ∙ st.holds.cells a in';
        wires = λ a is. ap (λ g. bit_of (g a) 0) same ∙ st.holds.wires a is;
        bytes = st.holds.bytes;
        latches = λ q lq. k.latches q ∙ latched_is u.core b x port q low lq
            ∙ ap₂ (λ m n. if q == port then with_bit m b x else n) (j.latches port ∙ st.holds.latches port low) (j.latches q ∙ st.holds.latches q lq)
            ∙ sym (set_index s.store.latches port (with_bit (slice_index s.store.latches port) b x) q
            (let all = st.holds.ports in omega (arith, all, low)));
        reading = k.reading ∙ t.reading ∙ j.reading ∙ st.holds.reading;
        eeprom = k.eeprom ∙ t.eeprom ∙ j.eeprom ∙ st.holds.eeprom;
      };
      settings = k.settings ∙ t.settings ∙ j.settings ∙ st.settings;
      started = λ e. record {
        zero = k.zero ∙ j.zero ∙ (st.started e).zero;
        directions = λ q lq. k.directions q lq ∙ directed u.core b x port q low lq ∙ j.directions q lq ∙ (st.started e).directions q lq;
        timing = k.timing ∙ t.timing ∙ j.timing ∙ (st.started e).timing;
        quiet = k.quiet ∙ t.quiet ∙ j.quiet ∙ (st.started e).quiet;
      };
      flag = tt;
      closed = st.closed;
      back = λ e. back_kept places v w s.open_call (k.stack ∙ j.stack) (ap (λ g. g 1118) same) (ap (λ g. g 1119) same) (st.back e);
    }
