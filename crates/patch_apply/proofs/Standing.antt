-- How the commands that are left stand to all commands.
use Rattle.std.proofs.Common.{◌≡◌, ◌⊎◌, ◌<◌, ◌≤◌, ℕ, ◌+◌, List, ◌∷◌, map, length, drop, get_or, OnOk, Result, Ok, Err, IsErrAnd, inl, inr, sym, ap, subst, ◌∙◌}
use Rattle.std.proofs.lemmas.List.{drop_all, drop_more}
use Rattle.patch_apply.specs.Applying.{IsPatched}
use Rattle.patch_edits.specs.Commands.{AreAsMany, IsCounted}
use Rattle.patch_model.specs.Acts.{Order, order_of}
use Rattle.patch_model.specs.declared.act.Command.{Command}
use Rattle.patch_ready.specs.Ready.{AreReady}
use Rattle.patch_sem.specs.declared.fault.PatchFault.{PatchFault}
use Rattle.patch_sem.specs.declared.fault.PatchFault.TheVariants.{Memory}
use Rattle.patch_sem.specs.Patching.{applied, patched}
use Rattle.patch_sem.specs.Selecting.{Rows}
use Rattle.patch_sem.specs.Steps.{Outcome, ◌>>=◌}
use Rattle.svd_model.specs.declared.device.Device.{Device}

-- the commands that are left are ready, and leave of these rows what all commands leave of the first ones
pub record Standing (commands : List Command) (first : Rows) (i : ℕ) (here : Rows) : Type 0 where
  pub ready : AreReady (map order_of (drop i commands))
  pub left : patched (map order_of (drop i commands)) here ≡ patched (map order_of commands) first

-- the commands from a place on
orders_from : (commands : List Command) (i : ℕ) (command : Command) → i < length commands → command ≡ get_or commands i command → map order_of (drop i commands) ≡ order_of command ∷ map order_of (drop (i + 1) commands)
orders_from commands i command within is =
    ap (map order_of) (drop_more commands i command within ∙ ap (λ (one : Command). one ∷ drop (i + 1) commands) (sym is))

bound : (order : Order) (orders : List Order) (here : Rows) (outcome : Outcome Rows) → applied order here ≡ outcome → patched (order ∷ orders) here ≡ (outcome >>= patched orders)
unfolding patched
bound order orders here outcome is = ap (λ (one : Outcome Rows). one >>= patched orders) is

module _ (commands : List Command) (first : Rows) (i : ℕ) (here : Rows) (command : Command) (within : i < length commands) (is : command ≡ get_or commands i command) (standing : Standing commands first i here) where
  ready_from : AreReady (order_of command ∷ map order_of (drop (i + 1) commands))
  ready_from = subst AreReady (orders_from commands i command within is) standing.ready

  left_from : (outcome : Outcome Rows) → applied (order_of command) here ≡ outcome → (outcome >>= patched (map order_of (drop (i + 1) commands))) ≡ patched (map order_of commands) first
  left_from outcome one =
      sym (bound (order_of command) (map order_of (drop (i + 1) commands)) here outcome one)
      ∙ ap (λ (orders : List Order). patched orders here) (sym (orders_from commands i command within is)) ∙ standing.left

  -- the next command
  pub went_on : (next : Rows) → applied (order_of command) here ≡ Ok next → Standing commands first (i + 1) next
  went_on next one = record { ready = ready_from.1; left = left_from (Ok next) one }

  -- its fault is that of all
  pub broke_off : {A : Type 0} (seen : A → Rows) (fault : PatchFault) (result : Result A PatchFault) → IsErrAnd result (λ f. f ≡ fault) → (fault ≡ Memory) ⊎ (applied (order_of command) here ≡ Err fault) → IsPatched (map order_of commands) first seen result
  broke_off seen fault (Ok made) handed one = absurd handed
  broke_off seen fault (Err found) handed (inl memory) = inl (handed ∙ memory)
  broke_off seen fault (Err found) handed (inr one) = inr (sym (left_from (Err fault) one) ∙ ap Err (sym handed))

-- no command is left
pub all_done : (commands : List Command) (first : Rows) (i : ℕ) (here : Rows) → length commands ≤ i → Standing commands first i here → patched (map order_of commands) first ≡ Ok here
unfolding patched
all_done commands first i here past standing = sym standing.left ∙ ap (λ (rest : List Command). patched (map order_of rest) here) (drop_all i commands past)

-- a command that leaves as many elements leaves the count right
pub as_many : (old new : Device) (total : ℕ) (result : Result (Unit {0}) PatchFault) → OnOk result (AreAsMany old new) → IsCounted old total → OnOk result (IsCounted new total)
as_many old new total (Ok done) same counted = same total counted
as_many old new total (Err fault) same counted = tt
