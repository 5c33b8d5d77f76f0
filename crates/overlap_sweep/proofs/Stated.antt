-- What the keys of registers and clusters state of what may share their places.
use Rattle.std.proofs.Common.{◌≡◌, None, refl, ◌∙◌}
use Rattle.overlap_sweep.specs.Overlaps.{stated_alternate, stated_group}
use Rattle.svd_model.specs.declared.device.Child.TheOpen.{Cluster-F}
use Rattle.svd_model.specs.declared.device.Register.{Register}
use Rattle.svd_model.specs.Keys.{Key, rank, alternate_of, alternate_group}
use Rattle.svd_model.specs.Stating.{value_of}
use Rattle.svd_model.specs.Trees.{cluster_places, register_places}
use Rattle.svd_model.proofs.Placed.{cluster-placed, register-placed}
use Rattle.svd_model.proofs.Stated.{found, stated_back}
use Rattle.svd_rows.specs.Ranks.{stated}

other-alternate : (key : Key) → (rank key ≡ 8 → ⊥) → stated_alternate key ≡ None
unfolding rank
other-alternate (alternate_of name) h = absurd (h refl)
other-alternate _ h = refl

other-group : (key : Key) → (rank key ≡ 9 → ⊥) → stated_group key ≡ None
unfolding rank
other-group (alternate_group name) h = absurd (h refl)
other-group _ h = refl

pub register-alternate : (e : Register) → value_of stated_alternate (stated (register_places e)) ≡ e.alternate
unfolding register_places
register-alternate e = found stated_alternate 8 other-alternate (register_places e) (register-placed e) ∙ stated_back alternate_of stated_alternate (λ name. refl) e.alternate

pub register-group : (e : Register) → value_of stated_group (stated (register_places e)) ≡ e.group
unfolding register_places
register-group e = found stated_group 9 other-group (register_places e) (register-placed e) ∙ stated_back alternate_group stated_group (λ name. refl) e.group

pub cluster-alternate : {A B C : Type 0} (e : Cluster-F A B C) → value_of stated_alternate (stated (cluster_places e)) ≡ e.alternate
unfolding cluster_places
cluster-alternate e = found stated_alternate 8 other-alternate (cluster_places e) (cluster-placed e) ∙ stated_back alternate_of stated_alternate (λ name. refl) e.alternate
