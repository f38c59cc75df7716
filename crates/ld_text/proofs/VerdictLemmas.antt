-- The answer of a reader is the verdict of the text.
use Rattle.std.proofs.Common.{◌≡◌, ◌≢◌, ℕ, ◌+◌, ◌≤◌, Bool, true, false, cond, ltb, List, [], ◌∷◌, ◌++◌, length, map, Option, Some, None, is_some, refl, sym, ap, subst, ◌∙◌, arith, append-nil, length-append, lit≤, take, length-take}
use Rattle.std.specs.List.{list_all}
use Rattle.std.proofs.lemmas.Bool.Decides.{nat_tests}
use Rattle.std.proofs.lemmas.List.{take_all}
use Rattle.std.proofs.lemmas.List.Elements.{All-nil}
use Rattle.chip_tables.specs.declared.target.Target.{Target}
use Rattle.ladder_tree.specs.declared.fault.ProjectFault.{ProjectFault}
use Rattle.ladder_tree.specs.declared.fault.ProjectFault.TheVariants.{LineTooLong}
use Rattle.ladder_tree.specs.declared.project.Project.{Project}
use Rattle.ladder_tree.specs.declared.project.Rung.{Rung}
use Rattle.texts.specs.declared.limits.TheConstants.{LINE_BYTES, FILE_BYTES}
use Rattle.ld_line.specs.declared.said.Said.TheVariants.{Is}
use Rattle.ld_text.specs.declared.heard.LineForm.TheVariants.{Magic, Header, Body}
use Rattle.ld_text.specs.declared.place.Site.{Site}
use Rattle.ld_text.specs.declared.place.Site.TheVariants as site
use Rattle.ld_text.specs.Lines.{Line, size_of, open_line, ended_lines, behind_feeds, lines_of}
use Rattle.ld_text.specs.Place.{start, behind_all}
use Rattle.ld_text.specs.Faults.{first_fault, or_else, end_fault}
use Rattle.ld_text.specs.Spelling.{spelled_items}
use Rattle.ld_line.specs.declared.header.HeaderLine.TheVariants as header
use Rattle.ld_text.specs.Text.{IsReadAs, text_fault, early_fault, early_length, project_of, judged}
use Rattle.ld_line.specs.Kinds.{is_kind_built}
use Rattle.ld_text.specs.Within.{IsWithin}
use Rattle.ld_text.specs.Tree.{Tree, Closed, Building}
use Rattle.ld_text.specs.Reading.{Standing, first, Taken, Goes, Stops, taken, Mind, Reads, Refuses, next, fed, fresh, Verdict, Accepts, Rejects, project_at, ended_as, at_end, finished}
use Rattle.ld_text.proofs.FedLemmas.{fed_refused, fed_append}
use Rattle.ld_text.proofs.TreeGrowth.{rungs_counted, so_far}
use Rattle.ld_text.proofs.RunLemmas.{then, run, early_run, FedTo, fed_to, run_goes, run_stops}
use Rattle.ld_text.proofs.SaidLemmas.{IsBuilt}
use Rattle.ld_text.proofs.KnowsLemmas.{Counts, KnowsAt, InBody, IsClosed, at_first, told, is_read, AreBuilt}

run-append : (n : ℕ) (xs ys : List Line) (s : Standing) → run n (xs ++ ys) s ≡ then (run (n + length xs) ys) (run n xs s)
run-append n [] ys s = let k : n ≡ n + 0 = omega arith in ap (λ k. run k ys s) k
run-append n (x ∷ xs) ys s = by (taken n x.bytes (size_of x) s) (λ t. run-append (n + 1) xs ys t)
  where
    by : (o : Taken) → ((t : Standing) → run (n + 1) (xs ++ ys) t ≡ then (run (n + 1 + length xs) ys) (run (n + 1) xs t))
        → then (run (n + 1) (xs ++ ys)) o ≡ then (run (n + length (x ∷ xs)) ys) (then (run (n + 1) xs) o)
    by (Stops f) rec = refl
    by (Goes t) rec = let k : n + 1 + length xs ≡ n + length (x ∷ xs) = omega arith in rec t ∙ ap (λ k. then (run k ys) (run (n + 1) xs t)) k

then_none : (n : ℕ) (o : Taken) → then (run n []) o ≡ o
then_none n (Goes t) = refl
then_none n (Stops f) = refl

too_long : (n : ℕ) (bytes : List ℕ) (size : ℕ) (s : Standing) → ltb LINE_BYTES (length bytes) ≡ true → taken n bytes size s ≡ Stops (LineTooLong n)
too_long n bytes size s h = rw h refl

next_is : (n k : ℕ) → n ≤ k + 1 → k ≤ FILE_BYTES → next n ≡ n + 1
next_is n k h g = omega arith

not_long : (k : ℕ) → k ≤ LINE_BYTES → ltb LINE_BYTES k ≡ false
not_long k h = grind (arith, nat_tests)

-- where bytes take a reader, the whole text's lines take it
whole_by : (text : List ℕ) (m : Mind) → FedTo 1 text first m → finished m ≡ at_end (length (lines_of text) + 1) (run 1 (lines_of text) first)
whole_by text (Reads k l t) far = by l far.rest refl
  where
    lines : run 1 (lines_of text) first ≡ run (1 + length (ended_lines text)) (open_line (behind_feeds text)) t
    lines =
        run-append 1 (ended_lines text) (open_line (behind_feeds text)) first
        ∙ ap (then (run (1 + length (ended_lines text)) (open_line (behind_feeds text)))) far.lines

    by : (r : List ℕ) → behind_feeds text ≡ r → l ≡ r → finished (Reads k l t) ≡ at_end (length (lines_of text) + 1) (run 1 (lines_of text) first)
    by [] e f =
        let numbered : k ≡ length (lines_of text) + 1 =
        omega (arith, far.number, length-append (ended_lines text) (open_line (behind_feeds text)), ap (λ x. length (open_line x)) e) in
        ap (λ x. finished (Reads k x t)) f
        ∙ ap (λ x. at_end x (Goes t)) numbered
        ∙ ap (at_end (length (lines_of text) + 1)) (sym (lines ∙ ap (λ x. run (1 + length (ended_lines text)) (open_line x) t) e))
    by (b ∷ bs) e f =
        let numbered : next k ≡ length (lines_of text) + 1 =
        next_is k t.place.bytes far.few far.within
        ∙ omega (arith, far.number, length-append (ended_lines text) (open_line (behind_feeds text)), ap (λ x. length (open_line x)) e) in
        ap (λ x. finished (Reads k x t)) f
        ∙ ap (λ x. at_end x (taken k (b ∷ bs) (length (b ∷ bs)) t)) numbered
        ∙ ap (λ x. at_end (length (lines_of text) + 1) (taken x (b ∷ bs) (length (b ∷ bs)) t)) far.number
        ∙ ap (at_end (length (lines_of text) + 1))
        (sym (lines ∙ ap (λ x. run (1 + length (ended_lines text)) (open_line x) t) e ∙ then_none (1 + length (ended_lines text) + 1)
        (taken (1 + length (ended_lines text)) (b ∷ bs) (length (b ∷ bs)) t)))
whole_by text (Refuses f) far = by (run 1 (ended_lines text) first) refl far
  where
    lines : (o : Taken) → run 1 (ended_lines text) first ≡ o
        → run 1 (lines_of text) first ≡ then (run (1 + length (ended_lines text)) (open_line (behind_feeds text))) o
    lines o e =
        run-append 1 (ended_lines text) (open_line (behind_feeds text)) first
        ∙ ap (then (run (1 + length (ended_lines text)) (open_line (behind_feeds text)))) e

    long : (t : Standing) (r : List ℕ) → behind_feeds text ≡ r → run 1 (ended_lines text) first ≡ Goes t → (b : Bool) → ltb LINE_BYTES (length r) ≡ b
        → cond b (Some (LineTooLong (1 + length (ended_lines text)))) None ≡ Some f
        → Rejects f ≡ at_end (length (lines_of text) + 1) (run 1 (lines_of text) first)
    long t r e g false h i = absurd cc
    long t [] e g true h i = absurd cc
    long t (b ∷ bs) e g true h i =
        let same : LineTooLong (1 + length (ended_lines text)) ≡ f = cc in
        ap Rejects (sym same)
        ∙ ap (at_end (length (lines_of text) + 1))
        (sym (lines (Goes t) g ∙ ap (λ x. run (1 + length (ended_lines text)) (open_line x) t) e ∙ then_none (1 + length (ended_lines text) + 1)
        (taken (1 + length (ended_lines text)) (b ∷ bs) (length (b ∷ bs)) t) ∙ too_long (1 + length (ended_lines text)) (b ∷ bs) (length (b ∷ bs)) t h))

    by : (o : Taken) → run 1 (ended_lines text) first ≡ o → early_run o (1 + length (ended_lines text)) (behind_feeds text) ≡ Some f
        → Rejects f ≡ at_end (length (lines_of text) + 1) (run 1 (lines_of text) first)
    by (Stops g) e h = let same : g ≡ f = cc in ap Rejects (sym same) ∙ ap (at_end (length (lines_of text) + 1)) (sym (lines (Stops g) e))
    by (Goes t) e h = long t (behind_feeds text) refl e (ltb LINE_BYTES (length (behind_feeds text))) refl h

pub fed_whole : (text : List ℕ) → FedTo 1 text first (fed fresh text)
fed_whole text = fed_to text [] 1 first (All-nil (λ x. x ≢ 10)) (lit≤ tt) (lit≤ tt) (lit≤ tt)

-- an answer that is the verdict of the text
abbrev pub IsVerdict : List ℕ → Verdict → Type 0
IsVerdict text (Accepts p) = IsReadAs text p × IsWithin p
IsVerdict text (Rejects f) = text_fault text ≡ Some f

-- a text whose lines lead to the space between rungs is a project's
accepted : (text : List ℕ) (t : Standing) (gs : List Rung) (chip : Target) → run 1 (lines_of text) first ≡ Goes t → t.place.site ≡ site.Between
    → t.tree ≡ Closed gs → t.settings.target ≡ Some chip → IsReadAs text (project_of t.settings chip gs) × IsWithin (project_of t.settings chip gs)
accepted text t gs chip h e f g =
    let lines = run_goes 1 (lines_of text) first t h in
    let k = told 1 (lines_of text) first t [] at_first h in
    let body : InBody k.more t × IsClosed t.tree = subst (λ x. KnowsAt x k.more t) e k.knows.spelled in
    let counts : Counts t.place (Closed gs) = subst (Counts t.place) f k.knows.counts in
    let words : AreBuilt (Some chip) (Closed gs) =
    subst (λ o. AreBuilt o (Closed gs)) (sym k.knows.target ∙ g) (subst (AreBuilt t.place.target) f k.knows.words) in
    let counted = rungs_counted gs in (
      record {
        faultless =
            ap (λ x. or_else x (end_fault (behind_all start 1 (lines_of text)).site (length (lines_of text) + 1))) lines.0
            ∙ ap (λ x. end_fault x.site (length (lines_of text) + 1)) lines.1
            ∙ ap (λ x. end_fault x (length (lines_of text) + 1)) e;
        project = record {
          items = body.0.items;
          spelled = k.said ∙ ap (map Is) (body.0.spelled ∙ ap (λ x. Magic ∷ (spelled_items body.0.items ++ Header header.Program ∷ map Body (so_far x))) f);
          target = ap (λ x. x.target) (sym body.0.settings) ∙ g;
          settings = ap (λ x. project_of x chip gs) body.0.settings;
        };
      },
      record {
        target = subst IsBuilt (sym k.knows.target ∙ g) k.knows.built;
        cycle = k.knows.read.cycle;
        crystal = k.knows.read.crystal;
        baud = k.knows.read.baud;
        pins = omega (arith, k.knows.pins.pins, k.knows.pins.few_pins);
        assigned = k.knows.read.assigned;
        rungs = omega (arith, counted.begins, counts.rungs, counts.few_rungs);
        elements = omega (arith, ap length counted.elements, counts.elements, counts.few_elements);
        forms = omega (arith, counted.opens, counts.openings, counts.few_openings);
        depth = counts.shallow;
        read = ap (list_all is_read) (sym counted.elements) ∙ counts.read;
        built = ap (list_all (λ l. is_kind_built chip l.kind)) (sym counted.elements) ∙ words;
      },
    )

-- the lines lead a reader to the verdict of the text
verdict_by : (text : List ℕ) (o : Taken) → run 1 (lines_of text) first ≡ o → IsVerdict text (at_end (length (lines_of text) + 1) o)
verdict_by text (Stops f) h =
    ap (λ x. or_else x (end_fault (behind_all start 1 (lines_of text)).site (length (lines_of text) + 1))) (run_stops 1 (lines_of text) first f h)
verdict_by text (Goes t) h = by t.place.site refl
  where
    lines : (first_fault start 1 (lines_of text) ≡ None) × (behind_all start 1 (lines_of text) ≡ t.place)
    lines = run_goes 1 (lines_of text) first t h

    ends : (x : Site) → t.place.site ≡ x → text_fault text ≡ end_fault x (length (lines_of text) + 1)
    ends x e =
        ap (λ x. or_else x (end_fault (behind_all start 1 (lines_of text)).site (length (lines_of text) + 1))) lines.0
        ∙ ap (λ x. end_fault x.site (length (lines_of text) + 1)) lines.1
        ∙ ap (λ x. end_fault x (length (lines_of text) + 1)) e

    refused : (x : Site) (f : ProjectFault) → t.place.site ≡ x → end_fault x (length (lines_of text) + 1) ≡ Some f
        → IsVerdict text (at_end (length (lines_of text) + 1) (Goes t))
    refused x f e g =
        subst (λ y. IsVerdict text (ended_as y (length (lines_of text) + 1) t)) (sym (ap (λ x. end_fault x (length (lines_of text) + 1)) e ∙ g)) (ends x e ∙ g)

    between : t.place.site ≡ site.Between → (d : Tree) (c : Option Target) → t.tree ≡ d → t.settings.target ≡ c
        → IsVerdict text (project_at t.settings d c (length (lines_of text) + 1))
    between e (Closed gs) (Some chip) f g = accepted text t gs chip h e f g
    between e (Closed gs) None f g =
        let k = told 1 (lines_of text) first t [] at_first h in
        let body : InBody k.more t × IsClosed t.tree = subst (λ x. KnowsAt x k.more t) e k.knows.spelled in
        let named = ap is_some (sym g) ∙ body.0.named in
        absurd cc
    between e (Building gs fs ns) c f g =
        let k = told 1 (lines_of text) first t [] at_first h in
        let body : InBody k.more t × IsClosed t.tree = subst (λ x. KnowsAt x k.more t) e k.knows.spelled in
        absurd (subst IsClosed f body.1)

    by : (x : Site) → t.place.site ≡ x → IsVerdict text (at_end (length (lines_of text) + 1) (Goes t))
    by site.First e = refused site.First _ e refl
    by site.Header e = refused site.Header _ e refl
    by site.Pins e = refused site.Pins _ e refl
    by site.Inside e = refused site.Inside _ e refl
    by site.Between e =
        subst (λ y. IsVerdict text (ended_as y (length (lines_of text) + 1) t)) (sym (ap (λ x. end_fault x (length (lines_of text) + 1)) e))
        (between e t.tree t.settings.target refl refl)

pub verdict : (text : List ℕ) → IsVerdict text (finished (fed fresh text))
verdict text = subst (IsVerdict text) (sym (whole_by text (fed fresh text) (fed_whole text))) (verdict_by text (run 1 (lines_of text) first) refl)

-- what is known before a text ends
abbrev pub IsEarly : List ℕ → Mind → Type 0
IsEarly text (Reads k l s) = early_fault text ≡ None
IsEarly text (Refuses f) = early_fault text ≡ Some f

early_by : (text : List ℕ) (m : Mind) → FedTo 1 text first m → IsEarly text m
early_by text (Reads k l t) far =
    ap (λ x. or_else x (early_length (length (ended_lines text) + 1) (behind_feeds text))) (run_goes 1 (ended_lines text) first t far.lines).0
    ∙ ap (early_length (length (ended_lines text) + 1)) far.rest
    ∙ ap (λ b. cond b (Some (LineTooLong (length (ended_lines text) + 1))) None) (not_long (length l) far.short)
early_by text (Refuses f) far = by (run 1 (ended_lines text) first) refl far
  where
    by : (o : Taken) → run 1 (ended_lines text) first ≡ o → early_run o (1 + length (ended_lines text)) (behind_feeds text) ≡ Some f → early_fault text ≡ Some f
    by (Stops g) e h =
        let same : g ≡ f = cc in
        ap (λ x. or_else x (early_length (length (ended_lines text) + 1) (behind_feeds text))) (run_stops 1 (ended_lines text) first g e)
        ∙ ap Some same
    by (Goes t) e h =
        let k : length (ended_lines text) + 1 ≡ 1 + length (ended_lines text) = omega arith in
        ap (λ x. or_else x (early_length (length (ended_lines text) + 1) (behind_feeds text))) (run_goes 1 (ended_lines text) first t e).0
        ∙ ap (λ k. early_length k (behind_feeds text)) k
        ∙ h

pub early : (text : List ℕ) → IsEarly text (fed fresh text)
early text = early_by text (fed fresh text) (fed_whole text)

-- what is refused early is the fault of the text, whatever follows
pub early_stays : (text more : List ℕ) (f : ProjectFault) → early_fault text ≡ Some f → text_fault (text ++ more) ≡ Some f
early_stays text more f h = by (fed fresh text) refl (early text)
  where
    by : (m : Mind) → fed fresh text ≡ m → IsEarly text m → text_fault (text ++ more) ≡ Some f
    by (Reads k l s) e g = absurd cc
    by (Refuses g) e k =
        let same : g ≡ f = cc in
        let refused = fed_append fresh text more ∙ ap (λ m. fed m more) e ∙ fed_refused g more in
        subst (λ m. IsVerdict (text ++ more) (finished m)) refused (verdict (text ++ more)) ∙ ap Some same

pub early_is_final : (text : List ℕ) (f : ProjectFault) → early_fault text ≡ Some f → text_fault text ≡ Some f
early_is_final text f h = subst (λ t. text_fault t ≡ Some f) (append-nil text) (early_stays text [] f h)

-- a text without a fault has a project
pub has_project : (text : List ℕ) → text_fault text ≡ None → (p : Project) × IsReadAs text p × IsWithin p
has_project text h = by (finished (fed fresh text)) (verdict text)
  where
    by : (v : Verdict) → IsVerdict text v → (p : Project) × IsReadAs text p × IsWithin p
    by (Accepts p) k = (p, k.0, k.1)
    by (Rejects f) k = absurd cc

-- nothing behind the first byte past the limit counts
pub judged_again : (text : List ℕ) → judged (judged text) ≡ judged text
judged_again text = take_all (FILE_BYTES + 1) (take (FILE_BYTES + 1) text) (omega (arith, length-take (FILE_BYTES + 1) text))
