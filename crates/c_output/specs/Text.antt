-- The C text of a project: a function ld_cycle, which does one cycle of the ladder, over hooks that its user defines.
use Rattle.std.specs.Prelude.{ℕ, List, [], ◌∷◌, ◌++◌, ℤ, codes, map}
use Rattle.std.specs.Fmt.{signed_decimal}
use Rattle.ladder_tree.specs.Leaves.{all_leaves}
use Rattle.ladder_tree.specs.Names.{names_of}
use Rattle.ladder_tree.specs.declared.limits.TheConstants.{DEPTH}
use Rattle.ladder_tree.specs.declared.names.Names.{Names}
use Rattle.ladder_tree.specs.declared.project.Project.{Project}
use Rattle.ladder_tree.specs.declared.project.Rung.{Rung}
use Rattle.ladder_meaning.specs.Cycle.{start_number}
use Rattle.c_output.specs.Filled.{filled, numbered, each, each_at, each_number}
use Rattle.c_output.specs.Element.{Terms}
use Rattle.c_output.specs.Node.{rungs_text}

-- the hooks, and the levels and numbers of a cycle
abbrev pub hooks_text : List ℕ
hooks_text =
    codes "extern int ld_in(int), ld_adc(int), ld_rx(void), ld_tx(void), ld_eebusy(void), ld_eerd(int);\n"
    ++ (codes "extern void ld_out(int, int), ld_pwm(int, long), ld_send(int), ld_eewr(int, int);\n"
    ++ codes "static int f, m, r, t, e, h, ha, hn, x;\n")

-- at the head the cycle time, and behind the hooks the inputs and outputs of PARALLELs
abbrev pub head_text : ℕ → List ℕ
head_text cycle = numbered (codes "/* LDmicro C, cycle # us */\n") cycle ++ (hooks_text ++ each_number (codes "static int i_#, o_#;\n") DEPTH)

-- each variable with its start value
abbrev pub variables_text : List (List ℕ) → List ℤ → List ℕ
variables_text [] starts = []
variables_text (name ∷ names) [] = []
variables_text (name ∷ names) (start ∷ starts) = filled (codes "static int v_@ = #;\n") name (signed_decimal start) [] ++ variables_text names starts

abbrev pub names_text : Names → List ℤ → List ℕ
names_text n starts =
    each (codes "static int b_@;\n") n.inputs
    ++ (each (codes "static int b_@;\n") n.outputs
    ++ (each (codes "static int b_@;\n") n.relays
    ++ (variables_text n.variables starts
    ++ (each_number (codes "static int k_#;\n") n.memories
    ++ each (codes "static int s_@;\n") n.persistent))))

-- a number that wraps at 16 bits, a quotient, which is 0 by 0, and whether the EEPROM is busy, which writes a byte that waits first
abbrev pub functions_text : List ℕ
functions_text =
    codes "static int w16(long n) { n &= 65535; return (int)(n > 32767 ? n - 65536 : n); }\n"
    ++ (codes "static int d16(long a, long b) { return b == 0 ? 0 : w16(a / b); }\n"
    ++ codes "static int ck(void) { if (e) return 1; if (h) { ld_eewr(ha, hn); h = 0; e = 1; return 1; } return 0; }\n")

-- a cycle: what the ladder sees, the rungs, and its outputs
abbrev pub cycle_text : Terms → Names → List Rung → List ℕ
cycle_text p n rungs =
    codes "void ld_cycle(void) {\n"
    ++ (each_at (codes "b_@ = ld_in(#);\n") 0 n.inputs
    ++ (codes "r = ld_rx(); t = ld_tx(); e = ld_eebusy(); m = 1;\n"
    ++ (rungs_text p rungs 0
    ++ (each_at (codes "ld_out(#, b_@);\n") 0 n.outputs
    ++ codes "}\n"))))

abbrev pub terms : ℕ → Names → Terms
terms cycle n = record { cycle = cycle; analog = n.analog; persistent = n.persistent }

-- the text of rungs with names and start values
abbrev pub c_text_of : ℕ → Names → List ℤ → List Rung → List ℕ
c_text_of cycle n starts rungs = head_text cycle ++ (names_text n starts ++ (functions_text ++ cycle_text (terms cycle n) n rungs))

abbrev pub c_text : Project → List ℕ
c_text p = c_text_of p.cycle (names_of p.rungs) (map (start_number p.cycle (all_leaves p.rungs)) (names_of p.rungs).variables) p.rungs
