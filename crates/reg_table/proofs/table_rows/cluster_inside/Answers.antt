-- A member of the cluster fits, and so do its children inside it.
use Rattle.std.proofs.Common.{ℕ, ◌∷◌, [], map, sym, ap, ap₂, ◌∙◌, subst}
use Rattle.reg_table.specs.Walk.{AllFit, rows_in, path_inside}
use Rattle.svd_model.specs.declared.device.Cluster.{out-Cluster}
use Rattle.svd_model.specs.declared.props.Props.{Props}
use Rattle.svd_model.specs.Properties.{holding}
use Rattle.svd_model.specs.Trees.{item_under}
use Rattle.svd_rows.specs.Forest.{siblings}
use Rattle.reg_table.proofs.Walks.{fit-cluster, rows-cluster}
use Rattle.reg_table.proofs.table_rows.cluster_inside.Goals as goal

pub start_inside-requires : goal.start_inside-requires
start_inside-requires c =
    (fit-cluster c.args.outer.now.props c.args.key.now c.args.cluster.now c.args.outer.now.start c.args.index c.requires.among c.requires.fits).0

pub returns-clause-fits : goal.returns-clause-fits
returns-clause-fits c =
    let fit = (fit-cluster c.args.outer.now.props c.args.key.now c.args.cluster.now c.args.outer.now.start c.args.index c.requires.among c.requires.fits).1 in
    let at = subst (λ (n : ℕ). AllFit n (holding ((out-Cluster c.args.cluster.now).props ∷ c.args.outer.now.props ∷ [])) (out-Cluster c.args.cluster.now).children.items) (sym c.start_inside.ensures) fit in
    let inner = subst (λ (p : Props). AllFit c.start_inside.result p (out-Cluster c.args.cluster.now).children.items) (sym c.within.ensures) at in
    subst (AllFit c.start_inside.result c.within.result) (sym c.requires.children) inner

pub returns-clause-rows : goal.returns-clause-rows
returns-clause-rows c =
    rows-cluster c.args.outer.now.props c.args.key.now c.args.cluster.now c.args.outer.now.path c.args.outer.now.start c.args.index
    ∙ sym (ap (λ items. rows_in c.in_ok-path_inside.field-0 c.start_inside.result c.within.result (siblings (map item_under items))) c.requires.children
    ∙ ap (λ path. rows_in path c.start_inside.result c.within.result (siblings (map item_under (out-Cluster c.args.cluster.now).children.items))) c.in_ok-path_inside.ensures
    ∙ ap₂ (λ at props. rows_in (path_inside c.args.outer.now.path c.args.key.now.name c.args.index) at props (siblings (map item_under (out-Cluster c.args.cluster.now).children.items))) c.start_inside.ensures c.within.ensures)
