-- Each child fits, and each member of it; and their members are those that the walk meets.
use Rattle.std.proofs.Common.{ℕ, List, Option, ◌++◌, ◌∷◌, [], ◌+◌, map, drop, sym, ap, ap₂, ◌∙◌, subst, append_assoc, append-nil, arith}
use Rattle.std.proofs.lemmas.Result.{on_ok_weaker}
use Rattle.overlap_sweep.specs.Walk.{member_spots, spots_in}
use Rattle.overlap_sweep.proofs.Walks.{spots-nothing, spots-first, all-members}
use Rattle.reg_table.specs.Walk.{FitIn, IsAmong, index_at}
use Rattle.reg_table.proofs.Walks.{numbered-more, cluster-child, register-child, cluster-count, register-count}
use Rattle.svd_model.specs.Keys.{Key}
use Rattle.svd_model.specs.Steps.{Step}
use Rattle.svd_model.specs.Trees.{item_under}
use Rattle.svd_rows.specs.Forest.{Tree, siblings}
use Rattle.svd_model.proofs.Lists.{from_place, drop_past}
use Rattle.overlap_sweep.proofs.walk.+walk.Goals as goal

-- ---- the children

pub push_items-loop-item-preserved : goal.push_items-loop-item-preserved
push_items-loop-item-preserved t c =
    let left = from_place c.args.items.now c.loop-item.item-index c.item-item.result c.loop-item-test.true c.item-item.is in
    let others = map item_under (drop (c.loop-item.item-index + 1) c.args.items.now) in
    ap (λ made. made ++ spots_in c.args.outer.now.way c.args.outer.now.start c.args.outer.now.props (siblings others)) c.in_ok-push_item.ensures
    ∙ append_assoc c.loop-item.made (spots_in c.args.outer.now.way c.args.outer.now.start c.args.outer.now.props (siblings (item_under c.item-item.result ∷ []))) (spots_in c.args.outer.now.way c.args.outer.now.start c.args.outer.now.props (siblings others))
    ∙ ap (λ r. c.loop-item.made ++ r) (sym (spots-first c.args.outer.now.way c.args.outer.now.start c.args.outer.now.props (item_under c.item-item.result) others))
    ∙ sym (ap (λ items. c.loop-item.made ++ spots_in c.args.outer.now.way c.args.outer.now.start c.args.outer.now.props (siblings (map item_under items))) left)
    ∙ c.loop-item.invariant

pub push_items-returns : goal.push_items-returns
push_items-returns t c =
    sym (append-nil c.loop-item.made)
    ∙ ap (λ r. c.loop-item.made ++ r) (sym (spots-nothing c.args.outer.now.way c.args.outer.now.start c.args.outer.now.props))
    ∙ sym (ap (λ items. c.loop-item.made ++ spots_in c.args.outer.now.way c.args.outer.now.start c.args.outer.now.props (siblings (map item_under items))) (drop_past c.args.items.now c.loop-item.item-index c.loop-item-test.false))
    ∙ c.loop-item.invariant

-- ---- the members of a child

pub push_item-loop-number-preserved : goal.push_item-loop-number-preserved
push_item-loop-number-preserved t c =
    let spots : ℕ → List _ = λ number. member_spots c.args.outer.now.way c.args.outer.now.start c.args.outer.now.props (item_under c.args.item.now) (index_at c.count_of-count.result number) in
    c.in_ok-push_member.ensures
    ∙ ap₂ (λ made more. made ++ more) c.loop-number.invariant
    (ap (member_spots c.args.outer.now.way c.args.outer.now.start c.args.outer.now.props (item_under c.args.item.now)) c.index_at.ensures)
    ∙ numbered-more spots c.args.made.now c.loop-number.number

pub push_item-returns : goal.push_item-returns
push_item-returns t c =
    c.loop-number.invariant
    ∙ ap (λ r. c.args.made.now ++ r)
    (all-members c.args.outer.now.way c.args.outer.now.start c.args.outer.now.props (item_under c.args.item.now) c.count_of-count.result c.loop-number.number
    c.count_of-count.ensures
    (omega (arith, c.loop-number-test.false, c.loop-number.auto.number-end, c.unwrap_or-number-end.ensures)))

-- ---- one member

pub push_member-cluster_inside-requires-clause-among : goal.push_member-cluster_inside-requires-clause-among
push_member-cluster_inside-requires-clause-among t c =
    subst (λ (dim : Option ℕ). IsAmong dim c.args.index) (cluster-count c.args.item.now c.in-Cluster.cluster c.in-Cluster.is) c.requires.among

pub push_member-cluster_inside-requires-clause-fits : goal.push_member-cluster_inside-requires-clause-fits
push_member-cluster_inside-requires-clause-fits t c =
    subst (λ (x : Step × Tree Step Key). FitIn c.args.outer.now.start c.args.outer.now.props (siblings (x ∷ []))) (cluster-child c.args.item.now c.in-Cluster.cluster c.in-Cluster.is) c.requires.fits

pub push_member-push_register-requires-clause-among : goal.push_member-push_register-requires-clause-among
push_member-push_register-requires-clause-among t c =
    subst (λ (dim : Option ℕ). IsAmong dim c.args.index) (register-count c.args.item.now c.in-Register.register c.in-Register.is) c.requires.among

pub push_member-push_register-requires-clause-fits : goal.push_member-push_register-requires-clause-fits
push_member-push_register-requires-clause-fits t c =
    subst (λ (x : Step × Tree Step Key). FitIn c.args.outer.now.start c.args.outer.now.props (siblings (x ∷ []))) (register-child c.args.item.now c.in-Register.register c.in-Register.is) c.requires.fits

pub push_member-returns-in_ok-inner-in-Cluster : goal.push_member-returns-in_ok-inner-in-Cluster
push_member-returns-in_ok-inner-in-Cluster t c =
    on_ok_weaker c.push_items.result
    (λ spots.
    spots
    ∙ ap (λ r. c.args.made.now ++ r)
    (sym c.in_ok-inner-in-Cluster.ensures.spots
    ∙ ap (λ x. member_spots c.args.outer.now.way c.args.outer.now.start c.args.outer.now.props x c.args.index) (sym (cluster-child c.args.item.now c.in-Cluster.cluster c.in-Cluster.is)))) c.push_items.ensures

pub push_member-returns-in-Register : goal.push_member-returns-in-Register
push_member-returns-in-Register t c =
    on_ok_weaker c.push_register.result
    (λ spots.
    spots
    ∙ ap (λ r. c.args.made.now ++ r)
    (ap (λ x. member_spots c.args.outer.now.way c.args.outer.now.start c.args.outer.now.props x c.args.index) (sym (register-child c.args.item.now c.in-Register.register c.in-Register.is)))) c.push_register.ensures
