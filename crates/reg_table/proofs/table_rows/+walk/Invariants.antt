-- The table, and the rows of the children that are left, are the whole table; the table, and the rows of the
-- members so far; and the rows can be listed where those before could.
use Rattle.std.proofs.Common.{◌≡◌, ◌++◌, map, drop}
use Rattle.std.specs.Prelude.{All}
use Rattle.std.specs.List.{flat_map, range_with_len}
use Rattle.reg_table.specs.Listing.{IsListed}
use Rattle.reg_table.specs.Walk.{index_at, member_rows, rows_in}
use Rattle.svd_model.specs.Trees.{item_under}
use Rattle.svd_rows.specs.Forest.{siblings}
use Rattle.reg_table.proofs.table_rows.+walk.Given as goal

abbrev pub invariant-push_items-loop-item : goal.invariant-push_items-loop-item
invariant-push_items-loop-item l = record {
  rows : l.table ++ rows_in l.outer.path l.outer.start l.outer.props (siblings (map item_under (drop l.item-index l.items))) ≡ l.fn.table ++ rows_in l.outer.path l.outer.start l.outer.props (siblings (map item_under l.items));
  listed : All IsListed l.fn.table → All IsListed l.table;
}

abbrev pub invariant-push_item-loop-number : goal.invariant-push_item-loop-number
invariant-push_item-loop-number l = record {
  rows : l.table ≡ l.fn.table ++ flat_map (λ number. member_rows l.outer.path l.outer.start l.outer.props (item_under l.item) (index_at l.count number)) (range_with_len 0 l.number);
  listed : All IsListed l.fn.table → All IsListed l.table;
}
