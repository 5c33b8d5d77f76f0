-- Each child fits, and each member of it; and their rows are those that the walk meets.
use Rattle.std.proofs.Common.{ℕ, List, Option, ◌++◌, ◌∷◌, [], ◌+◌, map, drop, sym, ap, ap₂, ◌∙◌, subst, append_assoc, append-nil, arith}
use Rattle.std.proofs.lemmas.Result.{on_ok_weaker}
use Rattle.reg_table.specs.Walk.{FitIn, IsAmong, index_at, member_rows, rows_in}
use Rattle.svd_model.specs.Keys.{Key}
use Rattle.svd_model.specs.Steps.{Step}
use Rattle.svd_model.specs.Trees.{item_under}
use Rattle.svd_rows.specs.Forest.{Tree, siblings}
use Rattle.svd_model.proofs.Lists.{from_place, drop_past}
use Rattle.reg_table.proofs.Walks.{rows-nothing, rows-first, all-members, numbered-more, cluster-child, register-child, cluster-count, register-count}
use Rattle.reg_table.proofs.table_rows.+walk.Goals as goal

-- ---- the children

pub push_items-loop-item-preserved : goal.push_items-loop-item-preserved
push_items-loop-item-preserved t c =
    let left = from_place c.args.items.now c.loop-item.item-index c.item-item.result c.loop-item-test.true c.item-item.is in
    let others = map item_under (drop (c.loop-item.item-index + 1) c.args.items.now) in
    record {
      rows =
          ap (λ table. table ++ rows_in c.args.outer.now.path c.args.outer.now.start c.args.outer.now.props (siblings others)) c.in_ok-push_item.ensures.rows
          ∙ append_assoc c.loop-item.table (rows_in c.args.outer.now.path c.args.outer.now.start c.args.outer.now.props (siblings (item_under c.item-item.result ∷ []))) (rows_in c.args.outer.now.path c.args.outer.now.start c.args.outer.now.props (siblings others))
          ∙ ap (λ r. c.loop-item.table ++ r) (sym (rows-first c.args.outer.now.path c.args.outer.now.start c.args.outer.now.props (item_under c.item-item.result) others))
          ∙ sym (ap (λ items. c.loop-item.table ++ rows_in c.args.outer.now.path c.args.outer.now.start c.args.outer.now.props (siblings (map item_under items))) left)
          ∙ c.loop-item.invariant.rows;
      listed = λ old. c.in_ok-push_item.ensures.listed (c.loop-item.invariant.listed old);
    }

pub push_items-returns-clause-rows : goal.push_items-returns-clause-rows
push_items-returns-clause-rows t c =
    sym (append-nil c.loop-item.table)
    ∙ ap (λ r. c.loop-item.table ++ r) (sym (rows-nothing c.args.outer.now.path c.args.outer.now.start c.args.outer.now.props))
    ∙ sym (ap (λ items. c.loop-item.table ++ rows_in c.args.outer.now.path c.args.outer.now.start c.args.outer.now.props (siblings (map item_under items))) (drop_past c.args.items.now c.loop-item.item-index c.loop-item-test.false))
    ∙ c.loop-item.invariant.rows

-- ---- the members of a child

pub push_item-loop-number-preserved : goal.push_item-loop-number-preserved
push_item-loop-number-preserved t c =
    let rows : ℕ → List _ = λ number. member_rows c.args.outer.now.path c.args.outer.now.start c.args.outer.now.props (item_under c.args.item.now) (index_at c.count_of-count.result number) in
    record {
      rows =
          c.in_ok-push_member.ensures.rows
          ∙ ap₂ (λ made more. made ++ more) c.loop-number.invariant.rows
          (ap (member_rows c.args.outer.now.path c.args.outer.now.start c.args.outer.now.props (item_under c.args.item.now)) c.index_at.ensures)
          ∙ numbered-more rows c.args.table.now c.loop-number.number;
      listed = λ old. c.in_ok-push_member.ensures.listed (c.loop-number.invariant.listed old);
    }

pub push_item-returns-clause-rows : goal.push_item-returns-clause-rows
push_item-returns-clause-rows t c =
    c.loop-number.invariant.rows
    ∙ ap (λ r. c.args.table.now ++ r)
    (all-members c.args.outer.now.path c.args.outer.now.start c.args.outer.now.props (item_under c.args.item.now) c.count_of-count.result c.loop-number.number
    c.count_of-count.ensures
    (omega (arith, c.loop-number-test.false, c.loop-number.auto.number-end, c.unwrap_or-number-end.ensures)))

-- ---- one member

pub push_member-cluster_inside-requires-clause-among : goal.push_member-cluster_inside-requires-clause-among
push_member-cluster_inside-requires-clause-among t c =
    subst (λ (dim : Option ℕ). IsAmong dim c.args.index) (cluster-count c.args.item.now c.in-Cluster.cluster c.in-Cluster.is) c.requires.among

pub push_member-cluster_inside-requires-clause-fits : goal.push_member-cluster_inside-requires-clause-fits
push_member-cluster_inside-requires-clause-fits t c =
    subst (λ (x : Step × Tree Step Key). FitIn c.args.outer.now.start c.args.outer.now.props (siblings (x ∷ []))) (cluster-child c.args.item.now c.in-Cluster.cluster c.in-Cluster.is) c.requires.fits

pub push_member-push_register-requires-clause-among : goal.push_member-push_register-requires-clause-among
push_member-push_register-requires-clause-among t c =
    subst (λ (dim : Option ℕ). IsAmong dim c.args.index) (register-count c.args.item.now c.in-Register.register c.in-Register.is) c.requires.among

pub push_member-push_register-requires-clause-fits : goal.push_member-push_register-requires-clause-fits
push_member-push_register-requires-clause-fits t c =
    subst (λ (x : Step × Tree Step Key). FitIn c.args.outer.now.start c.args.outer.now.props (siblings (x ∷ []))) (register-child c.args.item.now c.in-Register.register c.in-Register.is) c.requires.fits

pub push_member-returns-in_ok-inner-in-Cluster-clause-rows : goal.push_member-returns-in_ok-inner-in-Cluster-clause-rows
push_member-returns-in_ok-inner-in-Cluster-clause-rows t c =
    on_ok_weaker c.push_items.result
    (λ rows.
    rows
    ∙ ap (λ r. c.args.table.now ++ r)
    (sym c.in_ok-inner-in-Cluster.ensures.rows
    ∙ ap (λ x. member_rows c.args.outer.now.path c.args.outer.now.start c.args.outer.now.props x c.args.index) (sym (cluster-child c.args.item.now c.in-Cluster.cluster c.in-Cluster.is)))) c.push_items.ensures.rows

pub push_member-returns-in-Register-clause-rows : goal.push_member-returns-in-Register-clause-rows
push_member-returns-in-Register-clause-rows t c =
    on_ok_weaker c.push_register.result
    (λ rows.
    rows
    ∙ ap (λ r. c.args.table.now ++ r)
    (ap (λ x. member_rows c.args.outer.now.path c.args.outer.now.start c.args.outer.now.props x c.args.index) (sym (register-child c.args.item.now c.in-Register.register c.in-Register.is)))) c.push_register.ensures.rows
