mod LogCases
