-- A member of the cluster fits, and so do its children inside it.
use Rattle.std.proofs.Common.{ℕ, ◌∷◌, [], ◌++◌, is_some, map, sym, ap, ap₂, ◌∙◌, subst}
use Rattle.overlap_sweep.specs.Walk.{spots_in}
use Rattle.overlap_sweep.proofs.Walks.{spots-cluster}
use Rattle.reg_table.specs.Walk.{AllFit}
use Rattle.svd_model.specs.declared.device.Cluster.{out-Cluster}
use Rattle.svd_model.specs.declared.props.Props.{Props}
use Rattle.svd_model.specs.Properties.{holding}
use Rattle.svd_model.specs.Trees.{item_under}
use Rattle.svd_rows.specs.Forest.{siblings}
use Rattle.reg_table.proofs.Walks.{fit-cluster}
use Rattle.overlap_sweep.proofs.walk.cluster_inside.Goals as goal

pub start_inside-requires : goal.start_inside-requires
start_inside-requires c =
    (fit-cluster c.args.outer.now.props c.args.key.now c.args.cluster.now c.args.outer.now.start c.args.index c.requires.among c.requires.fits).0

pub returns-clause-fits : goal.returns-clause-fits
returns-clause-fits c =
    let fit = (fit-cluster c.args.outer.now.props c.args.key.now c.args.cluster.now c.args.outer.now.start c.args.index c.requires.among c.requires.fits).1 in
    let at = subst (λ (n : ℕ). AllFit n (holding ((out-Cluster c.args.cluster.now).props ∷ c.args.outer.now.props ∷ [])) (out-Cluster c.args.cluster.now).children.items) (sym c.start_inside.ensures) fit in
    let inner = subst (λ (p : Props). AllFit c.start_inside.result p (out-Cluster c.args.cluster.now).children.items) (sym c.within.ensures) at in
    subst (AllFit c.start_inside.result c.within.result) (sym c.requires.children) inner

pub returns-clause-spots : goal.returns-clause-spots
returns-clause-spots c =
    spots-cluster c.args.outer.now.props c.args.key.now c.args.cluster.now c.args.outer.now.way c.args.outer.now.start c.args.index
    ∙ sym (ap (λ items. spots_in c.in_ok-way_inside.field-0 c.start_inside.result c.within.result (siblings (map item_under items))) c.requires.children
    ∙ ap (λ way. spots_in way c.start_inside.result c.within.result (siblings (map item_under (out-Cluster c.args.cluster.now).children.items))) (c.in_ok-way_inside.ensures ∙ ap (λ b. c.args.outer.now.way ++ record { name = c.args.key.now.name; number = c.args.key.now.number; index = c.args.index; alternate = b } ∷ []) c.is_some-alternate.ensures)
    ∙ ap₂ (λ at props. spots_in (c.args.outer.now.way ++ record { name = c.args.key.now.name; number = c.args.key.now.number; index = c.args.index; alternate = is_some (out-Cluster c.args.cluster.now).alternate } ∷ []) at props (siblings (map item_under (out-Cluster c.args.cluster.now).children.items))) c.start_inside.ensures c.within.ensures)
