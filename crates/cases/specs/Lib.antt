pub mod CaseTable
