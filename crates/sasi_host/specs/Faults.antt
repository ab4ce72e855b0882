-- What a fault of a host is to a reader of a format.
use Rattle.sasi_host.specs.declared.fault.HostFault.{HostFault}
use Rattle.sasi_host.specs.declared.fault.HostFault.TheVariants as host
use Rattle.sasi_host.specs.declared.fault.ReadFault.{ReadFault}
use Rattle.sasi_host.specs.declared.fault.ReadFault.TheVariants as read

-- the fault of the same name
abbrev pub read_fault_of : HostFault → ReadFault
read_fault_of host.Failed = read.Failed
read_fault_of host.OutOfMemory = read.OutOfMemory
