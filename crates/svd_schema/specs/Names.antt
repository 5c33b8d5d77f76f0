-- The names of a description's elements (CMSIS-SVD 1.3).
use Rattle.std.specs.Prelude.{ℕ, List, codes}
use Rattle.svd_schema.specs.declared.container.Container.{Container}
use Rattle.svd_schema.specs.declared.container.Container.TheVariants.{Device, Peripherals, Peripheral, Registers, Cluster, Register, Fields, Field, ValueSet, Variant}
use Rattle.svd_schema.specs.declared.key.Key.{Key}
use Rattle.svd_schema.specs.declared.key.Key.TheVariants as key

-- the name of the element that the key is
unfoldable pub key_name : Key → List ℕ
key_name key.Name = codes "name"
key_name key.AddressUnitBits = codes "addressUnitBits"
key_name key.Size = codes "size"
key_name key.Access = codes "access"
key_name key.ResetValue = codes "resetValue"
key_name key.ResetMask = codes "resetMask"
key_name key.Dim = codes "dim"
key_name key.DimIncrement = codes "dimIncrement"
key_name key.DimIndex = codes "dimIndex"
key_name key.BaseAddress = codes "baseAddress"
key_name key.AddressOffset = codes "addressOffset"
key_name key.AlternateCluster = codes "alternateCluster"
key_name key.AlternateGroup = codes "alternateGroup"
key_name key.AlternateRegister = codes "alternateRegister"
key_name key.ModifiedWriteValues = codes "modifiedWriteValues"
key_name key.ReadAction = codes "readAction"
key_name key.BitOffset = codes "bitOffset"
key_name key.BitWidth = codes "bitWidth"
key_name key.Lsb = codes "lsb"
key_name key.Msb = codes "msb"
key_name key.BitRange = codes "bitRange"
key_name key.Usage = codes "usage"
key_name key.Value = codes "value"
key_name key.IsDefault = codes "isDefault"

-- the name of the element that the container is
unfoldable pub container_name : Container → List ℕ
container_name Device = codes "device"
container_name Peripherals = codes "peripherals"
container_name Peripheral = codes "peripheral"
container_name Registers = codes "registers"
container_name Cluster = codes "cluster"
container_name Register = codes "register"
container_name Fields = codes "fields"
container_name Field = codes "field"
container_name ValueSet = codes "enumeratedValues"
container_name Variant = codes "enumeratedValue"
