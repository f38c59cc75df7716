-- Paths of steps that ask for nothing.
use Rattle.std.proofs.Common.{ℕ, ◌+◌, ◌≤◌, List, ◌++◌, sym, subst, arith, append_assoc}
use Rattle.runs.specs.Run.{Stepper}
use Rattle.target_core.specs.Law.{Leads, here, on}

module _ {M : Type 0} (step : Stepper M) where
  -- what they lead to may be said in other words
  pub leads_as : (T U : M → Type 0) → ((m : M) → T m → U m) → (m : M) (budget : ℕ) (sent : List ℕ) → Leads step T m budget sent → Leads step U m budget sent
  leads_as T U h m budget _ (here x) = here (h m x)
  leads_as T U h m budget _ (on {rest = rest} w left asked is bound further) = on w left asked is bound (leads_as T U h w.next left rest further)

  -- in more cycles too
  pub leads_within : (T : M → Type 0) (m : M) (budget more : ℕ) (sent : List ℕ) → budget ≤ more → Leads step T m budget sent → Leads step T m more sent
  leads_within T m budget more _ le (here x) = here x
  leads_within T m budget more _ le (on {rest = rest} w left asked is bound further) = on w left asked is (omega (arith, bound, le)) further

  -- one path after another
  pub leads_on : (T U : M → Type 0) (m : M) (budget more : ℕ) (sent said : List ℕ) → Leads step T m budget sent →
      ((m' : M) → T m' → Leads step U m' more said) → Leads step U m (budget + more) (sent ++ said)
  leads_on T U m budget more _ said (here x) h = leads_within U m more (budget + more) said (omega arith) (h m x)
  leads_on T U m budget more _ said (on {rest = rest} w left asked is bound further) h =
      subst (λ l. Leads step U m (budget + more) l) (sym (append_assoc w.sent rest said))
      (on w (left + more) asked is (omega (arith, bound)) (leads_on T U w.next left more rest said further h))
