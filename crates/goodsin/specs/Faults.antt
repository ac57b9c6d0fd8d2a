-- The code of each fault of a goods-in file.
use Rattle.std.specs.Prelude.{ℕ, List, codes}
use Rattle.goodsin.specs.declared.fault.FileFault.{FileFault}
use Rattle.goodsin.specs.declared.fault.FileFault.TheVariants.{Header, Row, TooManyRows, Length, Reader, Memory}

abbrev pub file_fault_code : FileFault → List ℕ
file_fault_code Header = codes "G01"
file_fault_code (Row row) = codes "G02"
file_fault_code TooManyRows = codes "G03"
file_fault_code Length = codes "G04"
file_fault_code Reader = codes "G04"
file_fault_code Memory = codes "G90"
