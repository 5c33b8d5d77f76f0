-- Commands that grow by orders.
use Rattle.std.proofs.Common.{List, [], ◌++◌, map, sym, ap, ◌∙◌, append_assoc, append-nil, Result, Ok, Err, OnOk}
use Rattle.patch_model.specs.declared.act.Command.{Command}
use Rattle.patch_model.specs.Acts.{GrowsBy, Order, order_of}

pub grown-none : (made : List Command) → GrowsBy made made []
grown-none made = sym (append-nil (map order_of made))

pub grown-more : (old mid new : List Command) (xs ys : List Order) → GrowsBy old mid xs → GrowsBy mid new ys → GrowsBy old new (xs ++ ys)
grown-more old mid new xs ys first second = second ∙ ap (λ (orders : List Order). orders ++ ys) first ∙ append_assoc (map order_of old) xs ys

pub on_ok : {X E : Type 0} (P Q : Type 0) (result : Result X E) → (P → Q) → OnOk result P → OnOk result Q
on_ok P Q (Ok x) more fact = more fact
on_ok P Q (Err fault) more fact = tt
