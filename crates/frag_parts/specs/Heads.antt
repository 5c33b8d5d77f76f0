-- What stands in a block module before the modules inside it, as the tree has it.
use Rattle.frag_tree.specs.Trees.{BlockHead}
use Rattle.frag_parts.specs.declared.head.Head.{Head}

-- what stands in a block before its modules
abbrev pub head_told : Head → BlockHead
head_told head = record { name = head.name; fields = head.fields; accessors = head.accessors }
